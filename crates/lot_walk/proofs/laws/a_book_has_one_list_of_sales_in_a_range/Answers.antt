-- Both lists are the sales of the same entries.
use Rattle.lot_walk.proofs.SaleLawLemmas.{one_within}
use Rattle.lot_walk.proofs.laws.a_book_has_one_list_of_sales_in_a_range.Goals as goal

pub returns : goal.returns
returns c = one_within
