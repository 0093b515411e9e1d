use Rattle.std.proofs.Common.{refl}
use Rattle.lot_recall.proofs.OrderedLemmas.{none_ordered, none_ordered_rows}
use Rattle.lot_recall.proofs.ordered.OrderedPlace.new.Goals as goal

pub returns-clause-begun : goal.returns-clause-begun
returns-clause-begun c = λ tables entries stand never_fall.
    rw c.in_ok-scope.ensures at (none_ordered (record { scope = c.in_ok-scope.scope; noted = c.new.result; last = _ }) tables entries refl (c.new.ensures.begun tables entries stand).1 never_fall)

pub returns-clause-rows : goal.returns-clause-rows
returns-clause-rows c = λ tables.
    rw c.in_ok-scope.ensures at (none_ordered_rows (record { scope = c.in_ok-scope.scope; noted = c.new.result; last = _ }) tables refl (c.new.ensures.rows tables))
