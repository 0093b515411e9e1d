-- Position by position.
use Rattle.lot_compare.proofs.LegLemmas.{held_is_sum_of_legs}
use Rattle.lot_compare.proofs.laws.what_is_held_is_the_sum_of_legs.Goals as goal

pub returns : goal.returns
returns c = held_is_sum_of_legs
