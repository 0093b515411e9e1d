-- By the rows of its entries, and the one outcome of each step.
use Rattle.lot_walk.proofs.OneBookLemmas.{one_book}
use Rattle.lot_walk.proofs.laws.tables_stand_for_at_most_one_book.Goals as goal

pub returns : goal.returns
returns c = one_book
