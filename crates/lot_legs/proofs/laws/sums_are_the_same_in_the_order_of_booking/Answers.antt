-- A sum doesn't go by the order.
use Rattle.lot_legs.proofs.SumLemmas.{sums_booked}
use Rattle.lot_legs.proofs.laws.sums_are_the_same_in_the_order_of_booking.Goals as goal

pub returns : goal.returns
returns c = sums_booked
