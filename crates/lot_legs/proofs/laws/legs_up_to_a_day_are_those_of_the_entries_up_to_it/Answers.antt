-- The legs of an entry are all of its day.
use Rattle.lot_legs.proofs.SumLemmas.{sums_by}
use Rattle.lot_legs.proofs.laws.legs_up_to_a_day_are_those_of_the_entries_up_to_it.Goals as goal

pub returns : goal.returns
returns c entries day position = sums_by day position entries
