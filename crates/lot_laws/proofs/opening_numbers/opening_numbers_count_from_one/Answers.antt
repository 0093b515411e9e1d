-- Along a book the numbers of the postings that open lots ascend, from 1.
use Rattle.lot_laws.proofs.OpeningBooks.{from_one, to_most}
use Rattle.lot_laws.proofs.opening_numbers.opening_numbers_count_from_one.Goals as goal

pub returns-clause-least : goal.returns-clause-least
returns-clause-least c = from_one

pub returns-clause-most : goal.returns-clause-most
returns-clause-most c = to_most
