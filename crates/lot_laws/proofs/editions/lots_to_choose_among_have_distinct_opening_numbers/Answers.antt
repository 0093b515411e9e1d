-- Along a book the numbers of the postings that open lots ascend.
use Rattle.lot_book.specs.Edition.{Second, ties_in}
use Rattle.lot_laws.proofs.OpeningBooks.{openings_differ}
use Rattle.lot_laws.proofs.editions.lots_to_choose_among_have_distinct_opening_numbers.Goals as goal

pub returns : goal.returns
returns c = record { chosen_among = λ migration book. openings_differ migration (ties_in Second book) book }
