use Rattle.std.proofs.Common.{refl}
use Rattle.lot_walk.specs.Prices.{prices_by}
use Rattle.lot_walk.proofs.PriceLemmas.{are_prices}
use Rattle.lot_walk.proofs.PriceStepLemmas.{has_none}
use Rattle.lot_walk.proofs.prices.PricesPlace.new.Goals as goal

pub returns-clause-begun : goal.returns-clause-begun
returns-clause-begun c = λ tables entries stand. (
  (prices_by c.args.day tables.price, are_prices tables entries stand c.args.day),
  has_none _ tables c.args.day refl refl refl (c.new.ensures.start tables.price),
)

pub returns-clause-rows : goal.returns-clause-rows
returns-clause-rows c = λ tables. has_none _ tables c.args.day refl refl refl (c.new.ensures.start tables.price)
