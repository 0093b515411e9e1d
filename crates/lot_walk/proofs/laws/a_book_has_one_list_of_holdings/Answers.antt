-- Both lists have the same units at each position.
use Rattle.lot_walk.proofs.LawLemmas.{one_holdings}
use Rattle.lot_walk.proofs.laws.a_book_has_one_list_of_holdings.Goals as goal

pub returns : goal.returns
returns c = one_holdings
