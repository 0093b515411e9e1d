-- Of two days with a rate the later one is the last.
use Rattle.lot_walk.proofs.LawLemmas.{one_price}
use Rattle.lot_walk.proofs.laws.a_pair_has_one_price_at_a_day.Goals as goal

pub returns : goal.returns
returns c = one_price
