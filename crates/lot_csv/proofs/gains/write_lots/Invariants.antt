use Rattle.std.specs.Prelude.{zip}
use Rattle.std.specs.Iterator.Adapters.{zip_first, zip_second}
use Rattle.std.specs.Slice.Iter.{iter_rest}
use Rattle.lot_io.specs.Writes.{NoneFailed}
use Rattle.lot_report.proofs.EachLemmas.{EachSoFar}
use Rattle.lot_csv.specs.Gains.{lot_record}
use Rattle.lot_csv.proofs.gains.write_lots.Given as goal

-- the records of the legs so far are written, and no call failed
abbrev pub invariant-loop-leg : goal.invariant-loop-leg
invariant-loop-leg g l =
    EachSoFar (lot_record l.seller.entry l.seller.posting l.sale) (zip l.legs l.gains)
    (zip (iter_rest (zip_first l.leg-iterator)) (iter_rest (zip_second l.leg-iterator)))
    (g.W.CountedWrite.contents l.initial.writer) (g.W.CountedWrite.contents l.writer)
    × NoneFailed (g.W.CountedWrite.calls l.initial.writer) (g.W.CountedWrite.calls l.writer)
