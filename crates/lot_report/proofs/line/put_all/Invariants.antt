use Rattle.std.proofs.Common.{drop}
use Rattle.lot_io.specs.Writes.{NoneFailed}
use Rattle.lot_report.proofs.EachLemmas.{EachSoFar}
use Rattle.lot_report.proofs.line.put_all.Given as goal

-- the texts so far are written, and no call failed
abbrev pub invariant-loop-text : goal.invariant-loop-text
invariant-loop-text g l =
    EachSoFar (λ t. t.now) l.texts (drop l.text-index l.texts) (g.W.CountedWrite.contents l.initial.writer) (g.W.CountedWrite.contents l.writer)
    × NoneFailed (g.W.CountedWrite.calls l.initial.writer) (g.W.CountedWrite.calls l.writer)
