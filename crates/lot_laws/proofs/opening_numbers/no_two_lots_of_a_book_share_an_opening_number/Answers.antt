-- Along a book the numbers of the postings that open lots ascend.
use Rattle.lot_laws.proofs.OpeningBooks.{lots_differ}
use Rattle.lot_laws.proofs.opening_numbers.no_two_lots_of_a_book_share_an_opening_number.Goals as goal

pub returns : goal.returns
returns c = record { distinct = lots_differ }
