-- Each row says what the book holds, and each position that holds some has its row.
use Rattle.lot_walk.proofs.HoldingLemmas.{merged_holdings}
use Rattle.lot_walk.proofs.laws.merged_rows_are_what_a_book_holds.Goals as goal

pub returns : goal.returns
returns c = merged_holdings
