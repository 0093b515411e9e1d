use Rattle.lot_call.proofs.SelectLemmas.{last_leg_selects}
use Rattle.lot_call.proofs.facts.last_leg.Goals as goal

pub find-requires : goal.find-requires
find-requires g c = last_leg_selects
