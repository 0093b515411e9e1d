-- Each booked posting is a sale, or it isn't.
use Rattle.lot_laws.proofs.LawLeft.{bought_is_sold_or_left}
use Rattle.lot_laws.proofs.books.what_was_bought_into_a_lot_is_sold_or_left.Goals as goal

pub returns : goal.returns
returns c = bought_is_sold_or_left
