-- The legs of an entry rise by their postings and places, and those of the next come behind them.
use Rattle.lot_legs.proofs.OrderLemmas.{legs_up}
use Rattle.lot_legs.proofs.laws.dated_legs_are_in_their_order.Goals as goal

pub returns : goal.returns
returns c = legs_up
