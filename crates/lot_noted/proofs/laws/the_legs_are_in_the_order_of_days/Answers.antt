use Rattle.lot_noted.proofs.BareLemmas.{listed_up}
use Rattle.lot_noted.proofs.laws.the_legs_are_in_the_order_of_days.Goals as goal

pub returns : goal.returns
returns c asked entries book = listed_up asked entries (c.dated_legs_are_in_their_order.ensures entries book)
