use Rattle.lot_call.proofs.SelectLemmas.{first_lot_selects}
use Rattle.lot_call.proofs.facts.first_lot.Goals as goal

pub find-requires : goal.find-requires
find-requires g c = first_lot_selects
