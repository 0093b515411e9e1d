-- Each leg has the number of its entry, and the place of its posting.
use Rattle.lot_laws.proofs.OpeningPostings.{least_place, most_place, numbered}
use Rattle.lot_laws.proofs.opening_numbers.a_posting_is_numbered_by_its_place_in_the_book.Goals as goal

pub returns-clause-number : goal.returns-clause-number
returns-clause-number c = numbered

pub returns-clause-least : goal.returns-clause-least
returns-clause-least c = least_place

pub returns-clause-most : goal.returns-clause-most
returns-clause-most c = most_place
