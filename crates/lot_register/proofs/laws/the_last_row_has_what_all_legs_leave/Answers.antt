use Rattle.lot_register.proofs.LeftLemmas.{last_of_all}
use Rattle.lot_register.proofs.laws.the_last_row_has_what_all_legs_leave.Goals as goal

pub returns : goal.returns
returns c = last_of_all
