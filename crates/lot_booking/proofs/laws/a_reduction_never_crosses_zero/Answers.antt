use Rattle.lot_booking.proofs.BookingLaws.{taken_distinct, taken_from}
use Rattle.lot_booking.proofs.laws.a_reduction_never_crosses_zero.Goals as goal

pub returns-clause-takes_from : goal.returns-clause-takes_from
returns-clause-takes_from c posting legs comes = taken_from c.matching_lots_are_distinct.ensures posting legs comes.1

pub returns-clause-distinct : goal.returns-clause-distinct
returns-clause-distinct c posting legs comes = taken_distinct c.matching_lots_are_distinct.ensures posting legs comes.1
