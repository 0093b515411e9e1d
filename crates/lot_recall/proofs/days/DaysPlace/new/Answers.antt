use Rattle.std.proofs.Common.{refl}
use Rattle.lot_recall.proofs.DayLemmas.{no_day_rows}
use Rattle.lot_recall.proofs.days.DaysPlace.new.Goals as goal

pub returns-clause-begun : goal.returns-clause-begun
returns-clause-begun c = λ tables entries stand. ((_, refl), no_day_rows _ tables (c.new.ensures.start tables.entry))

pub returns-clause-rows : goal.returns-clause-rows
returns-clause-rows c = λ tables. no_day_rows _ tables (c.new.ensures.start tables.entry)
