use Rattle.lot_io.specs.Writes.{NoneFailed}
use Rattle.lot_report.proofs.EachLemmas.{EachSoFar}
use Rattle.lot_activity.specs.Table.{row_text, shown}
use Rattle.lot_activity.proofs.rows.print_rows.Given as goal

-- the rows so far are written, and the others are left; no call failed
abbrev pub invariant-loop-key : goal.invariant-loop-key
invariant-loop-key g l =
    EachSoFar (λ row. row_text l.form (shown row)) l.rows.entries l.key-iterator (g.W.CountedWrite.contents l.initial.writer) (g.W.CountedWrite.contents l.writer)
    × NoneFailed (g.W.CountedWrite.calls l.initial.writer) (g.W.CountedWrite.calls l.writer)
