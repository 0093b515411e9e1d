use Rattle.std.specs.Prelude.{map, zip}
use Rattle.std.specs.Iterator.Adapters.{zip_first, zip_second}
use Rattle.std.specs.Slice.Iter.{iter_rest}
use Rattle.lot_tally.specs.Lots.{counted, sale_lots}
use Rattle.lot_tally.proofs.RowLemmas.{LotsSoFar}
use Rattle.lot_tally.proofs.counted.add_lots.Given as goal

-- the lots so far are in their rows
abbrev pub invariant-loop-leg : goal.invariant-loop-leg
invariant-loop-leg l =
    LotsSoFar (sale_lots l.by l.form l.sale)
    (map (counted l.by l.form l.sale) (zip (iter_rest (zip_first l.leg-iterator)) (iter_rest (zip_second l.leg-iterator))))
    l.initial.rows l.rows
