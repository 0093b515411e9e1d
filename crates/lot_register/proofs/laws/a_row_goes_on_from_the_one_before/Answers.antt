use Rattle.lot_register.proofs.LeftLemmas.{goes_on}
use Rattle.lot_register.proofs.laws.a_row_goes_on_from_the_one_before.Goals as goal

pub returns : goal.returns
returns c = goes_on
