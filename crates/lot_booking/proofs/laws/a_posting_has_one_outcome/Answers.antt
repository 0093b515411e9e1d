use Rattle.lot_booking.proofs.BookingLaws.{one_outcome}
use Rattle.lot_booking.proofs.SomeOutcome.{some_outcome}
use Rattle.lot_booking.proofs.laws.a_posting_has_one_outcome.Goals as goal

pub returns-clause-some : goal.returns-clause-some
returns-clause-some c = some_outcome c.matching_lots_are_distinct.ensures

pub returns-clause-one : goal.returns-clause-one
returns-clause-one c = one_outcome
