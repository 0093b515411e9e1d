use Rattle.std.proofs.Common.{None, refl}
use Rattle.lot_recall.specs.declared.noted.NotedPlace.{NotedPlace}
use Rattle.lot_recall.proofs.NotedLemmas.{no_noted, no_noted_rows}
use Rattle.lot_recall.proofs.noted.NotedPlace.new.Goals as goal

pub returns-clause-begun : goal.returns-clause-begun
returns-clause-begun c = λ tables entries stand.
    let place : NotedPlace = record { legs = c.new.result; last = None } in
    no_noted place tables entries (no_noted_rows place tables refl (c.new.ensures.rows tables)) (c.new.ensures.begun tables entries stand).1

pub returns-clause-rows : goal.returns-clause-rows
returns-clause-rows c = λ tables.
    let place : NotedPlace = record { legs = c.new.result; last = None } in
    no_noted_rows place tables refl (c.new.ensures.rows tables)
