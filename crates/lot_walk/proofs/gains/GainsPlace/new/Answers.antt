use Rattle.std.proofs.Common.{refl}
use Rattle.lot_walk.proofs.GainLemmas.{sold_none, sold_prefix}
use Rattle.lot_walk.proofs.GainRowLemmas.{no_sale_rows}
use Rattle.lot_walk.proofs.gains.GainsPlace.new.Goals as goal

pub returns-clause-begun : goal.returns-clause-begun
returns-clause-begun c = λ tables entries stand. (
  sold_prefix tables (c.args.first, c.args.last) entries stand,
  sold_none _ tables (c.args.first, c.args.last) entries refl refl stand (c.new.ensures.start tables.sale),
)

pub returns-clause-rows : goal.returns-clause-rows
returns-clause-rows c = λ tables. no_sale_rows _ tables (c.args.first, c.args.last) refl refl (c.new.ensures.start tables.sale)
