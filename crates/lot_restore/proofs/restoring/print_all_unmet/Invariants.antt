use Rattle.std.proofs.Common.{drop}
use Rattle.lot_io.specs.Writes.{NoneFailed}
use Rattle.lot_report.proofs.EachLemmas.{EachSoFar}
use Rattle.lot_restore.specs.Lines.{unmet_line}
use Rattle.lot_restore.proofs.restoring.print_all_unmet.Given as goal

-- those so far are written, and no call failed
abbrev pub invariant-loop-it : goal.invariant-loop-it
invariant-loop-it g l =
    EachSoFar (λ it. unmet_line it.now) l.unmet (drop l.it-index l.unmet) (g.W.CountedWrite.contents l.initial.writer) (g.W.CountedWrite.contents l.writer)
    × NoneFailed (g.W.CountedWrite.calls l.initial.writer) (g.W.CountedWrite.calls l.writer)
