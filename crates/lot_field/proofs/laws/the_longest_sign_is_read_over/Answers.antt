-- The longest is at least as long as each.
use Rattle.lot_field.proofs.SignLemmas.{no-longer-behind, no-longer-before, one-behind}
use Rattle.lot_field.proofs.laws.the_longest_sign_is_read_over.Goals as goal

pub returns-clause-front : goal.returns-clause-front
returns-clause-front c = λ before behind sign text rest is. no-longer-behind before behind sign text rest is

pub returns-clause-back : goal.returns-clause-back
returns-clause-back c = λ before behind sign text rest is. no-longer-before before behind sign text rest is

pub returns-clause-one : goal.returns-clause-one
returns-clause-one c = λ signs text. one-behind signs text
