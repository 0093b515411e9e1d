-- What stands under a key stands there ever after.
use Rattle.lot_laws.proofs.KeyLaws.{put_in, taken_out}
use Rattle.lot_laws.proofs.LawKeys.{only_repeats, repeats, stands}
use Rattle.lot_laws.proofs.books.an_equal_command_may_be_taken_out.Goals as goal

pub returns-clause-stands : goal.returns-clause-stands
returns-clause-stands c = stands

pub returns-clause-repeats : goal.returns-clause-repeats
returns-clause-repeats c = repeats

pub returns-clause-nothing_else : goal.returns-clause-nothing_else
returns-clause-nothing_else c = only_repeats

pub returns-clause-taken_out : goal.returns-clause-taken_out
returns-clause-taken_out c = taken_out

pub returns-clause-put_in : goal.returns-clause-put_in
returns-clause-put_in c = put_in
