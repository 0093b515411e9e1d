-- Both lists have the same price of each pair.
use Rattle.lot_walk.proofs.LawLemmas.{one_prices}
use Rattle.lot_walk.proofs.laws.a_book_has_one_list_of_prices_at_a_day.Goals as goal

pub returns : goal.returns
returns c = one_prices
