use Rattle.lot_period.proofs.OrderLemmas.{in_order}
use Rattle.lot_period.proofs.laws.texts_sort_as_days.Goals as goal

pub returns : goal.returns
returns c = in_order
