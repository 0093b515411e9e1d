-- A booked posting that takes lots away is a sale, with its legs.
use Rattle.lot_walk.proofs.LotLaws.{bought_is_taken_or_left}
use Rattle.lot_walk.proofs.laws.what_was_bought_into_a_lot_was_sold_or_is_held.Goals as goal

pub returns : goal.returns
returns c = bought_is_taken_or_left
