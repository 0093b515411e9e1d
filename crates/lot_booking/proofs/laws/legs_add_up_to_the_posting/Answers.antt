use Rattle.lot_booking.proofs.BookingLaws.{units_of_legs}
use Rattle.lot_booking.proofs.laws.legs_add_up_to_the_posting.Goals as goal

pub returns : goal.returns
returns c = units_of_legs
