-- Distinct numbers don't compare alike.
use Rattle.lot_booking.proofs.OpeningOrders.{highest_decided, newest_decided, oldest_decided}
use Rattle.lot_laws.proofs.opening_numbers.distinct_openings_decide_ties.Goals as goal

pub returns-clause-oldest : goal.returns-clause-oldest
returns-clause-oldest c = oldest_decided

pub returns-clause-newest : goal.returns-clause-newest
returns-clause-newest c = newest_decided

pub returns-clause-highest : goal.returns-clause-highest
returns-clause-highest c = highest_decided
