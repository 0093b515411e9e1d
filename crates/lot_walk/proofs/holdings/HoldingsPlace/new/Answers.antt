use Rattle.std.proofs.Common.{refl}
use Rattle.lot_walk.specs.Holdings.{merged}
use Rattle.lot_walk.proofs.HoldingLemmas.{merged_holdings}
use Rattle.lot_walk.proofs.holdings.HoldingsPlace.new.Goals as goal

pub returns-clause-begun : goal.returns-clause-begun
returns-clause-begun c = λ tables entries stand. (
  (merged tables.plain tables.lot, merged_holdings tables entries stand),
  record { none = refl; first = c.new-lots.ensures.start tables.lot },
)

pub returns-clause-rows : goal.returns-clause-rows
returns-clause-rows c = λ tables. record { none = refl; first = c.new-lots.ensures.start tables.lot }
