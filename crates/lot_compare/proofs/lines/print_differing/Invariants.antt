use Rattle.lot_io.specs.Writes.{NoneFailed}
use Rattle.lot_compare.proofs.LineLemmas.{LinesSoFar}
use Rattle.lot_compare.proofs.lines.print_differing.Given as goal

-- the lines of some sums are written, and the other sums are left; no call failed
abbrev pub invariant-loop-subject : goal.invariant-loop-subject
invariant-loop-subject g l =
    LinesSoFar l.kind l.sums.sums.entries l.subject-iterator (g.W.CountedWrite.contents l.initial.writer) (g.W.CountedWrite.contents l.writer)
    × NoneFailed (g.W.CountedWrite.calls l.initial.writer) (g.W.CountedWrite.calls l.writer)
