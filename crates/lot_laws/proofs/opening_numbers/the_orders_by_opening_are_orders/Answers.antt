-- Each compares by a part of the key, then by opening, then by key.
use Rattle.lot_booking.proofs.OpeningOrders.{highest_opened_is_order, newest_opened_is_order, oldest_opened_is_order}
use Rattle.lot_laws.proofs.opening_numbers.the_orders_by_opening_are_orders.Goals as goal

pub returns-clause-oldest : goal.returns-clause-oldest
returns-clause-oldest c = oldest_opened_is_order

pub returns-clause-newest : goal.returns-clause-newest
returns-clause-newest c = newest_opened_is_order

pub returns-clause-highest : goal.returns-clause-highest
returns-clause-highest c = highest_opened_is_order
