use Rattle.lot_position.proofs.LawLemmas.{nothing_held}
use Rattle.lot_position.proofs.laws.a_day_before_all_legs_has_nothing.Goals as goal

pub returns : goal.returns
returns c = nothing_held
