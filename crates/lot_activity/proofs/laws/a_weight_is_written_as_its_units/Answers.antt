-- Eight zeros at the end of the decimals aren't written.
use Rattle.lot_activity.proofs.MoneyLemmas.{money_of_units}
use Rattle.lot_activity.proofs.laws.a_weight_is_written_as_its_units.Goals as goal

pub returns : goal.returns
returns c = money_of_units
