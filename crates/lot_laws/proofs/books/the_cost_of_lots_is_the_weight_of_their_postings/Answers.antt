-- A posting with braces weighs what its legs put into the lots.
use Rattle.lot_laws.proofs.LawCosts.{book_booked, lots_cost}
use Rattle.lot_laws.proofs.books.the_cost_of_lots_is_the_weight_of_their_postings.Goals as goal

pub returns-clause-booked : goal.returns-clause-booked
returns-clause-booked c = book_booked

pub returns-clause-cost : goal.returns-clause-cost
returns-clause-cost c = lots_cost
