-- Along a book the numbers of the postings that open lots ascend.
use Rattle.lot_laws.proofs.OpeningBooks.{opened_in_order}
use Rattle.lot_laws.proofs.opening_numbers.the_lot_opened_first_has_the_smaller_number.Goals as goal

pub returns : goal.returns
returns c = record { ascending = opened_in_order }
