-- A pair's last row has its greatest day.
use Rattle.lot_walk.proofs.PriceLemmas.{prices_at_day}
use Rattle.lot_walk.proofs.laws.last_rows_of_pairs_are_the_prices_at_a_day.Goals as goal

pub returns : goal.returns
returns c = prices_at_day
