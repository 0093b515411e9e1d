use Rattle.lot_io.specs.Writes.{NoneFailed}
use Rattle.lot_report.proofs.WholeLemmas.{SoFar}
use Rattle.lot_report.proofs.holdings.print_holdings.Given as goal

-- the rows so far were taken and written, and no call of the writer failed
abbrev pub invariant-loop-holding : goal.invariant-loop-holding
invariant-loop-holding g l = record {
  fed : SoFar l.fn.rows.items l.holding-iterator.rest.items l.progress
      (g.W.CountedWrite.contents l.initial.writer) (g.W.CountedWrite.contents l.writer);
  none_failed : NoneFailed (g.W.CountedWrite.calls l.initial.writer) (g.W.CountedWrite.calls l.writer);
}
