use Rattle.lot_laws.proofs.GainLaws.{proceeds_are_of_all_units}
use Rattle.lot_laws.proofs.gains.proceeds_are_of_all_units.Goals as goal

pub returns : goal.returns
returns c = proceeds_are_of_all_units
