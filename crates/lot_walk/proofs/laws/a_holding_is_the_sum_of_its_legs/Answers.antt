-- By the law of what an account holds.
use Rattle.lot_walk.proofs.LawLemmas.{holding_is_sum}
use Rattle.lot_walk.proofs.laws.a_holding_is_the_sum_of_its_legs.Goals as goal

pub returns : goal.returns
returns c = holding_is_sum
