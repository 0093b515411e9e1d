use Rattle.lot_import.proofs.KnownLemmas.{rounded_cash}
use Rattle.lot_import.proofs.laws.rounded_cash_is_units.Goals as goal

pub returns : goal.returns
returns c = rounded_cash
