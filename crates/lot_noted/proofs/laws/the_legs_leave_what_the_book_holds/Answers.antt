use Rattle.lot_noted.proofs.SumLemmas.{left_booked}
use Rattle.lot_noted.proofs.laws.the_legs_leave_what_the_book_holds.Goals as goal

pub returns : goal.returns
returns c asked entries pair account commodity last =
    left_booked asked entries pair account commodity last (λ passes value. c.sums_are_the_same_in_the_order_of_booking.ensures entries passes value)
