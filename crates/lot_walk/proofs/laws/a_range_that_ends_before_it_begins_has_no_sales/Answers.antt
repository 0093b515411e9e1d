-- No day is in the range.
use Rattle.lot_walk.proofs.SaleLawLemmas.{none_within}
use Rattle.lot_walk.proofs.laws.a_range_that_ends_before_it_begins_has_no_sales.Goals as goal

pub returns : goal.returns
returns c = none_within
