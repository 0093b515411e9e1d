use Rattle.std.specs.Prelude.{codes}
use Rattle.lot_io.specs.Writes.{NoneFailed}
use Rattle.lot_report.specs.Printed.{total_of}
use Rattle.lot_report.proofs.EachLemmas.{EachSoFar}
use Rattle.lot_tally.proofs.totals.Totals.print.Given as goal

-- the lines so far are written, and the others are left; no call failed
abbrev pub invariant-loop-currency : goal.invariant-loop-currency
invariant-loop-currency g l =
    EachSoFar (λ sum. total_of (codes "gain") sum.0 sum.1) l.self.sums.entries l.currency-iterator (g.W.CountedWrite.contents l.initial.writer) (g.W.CountedWrite.contents l.writer)
    × NoneFailed (g.W.CountedWrite.calls l.initial.writer) (g.W.CountedWrite.calls l.writer)
