use Rattle.lot_io.specs.Writes.{NoneFailed}
use Rattle.lot_report.proofs.EachLemmas.{EachSoFar}
use Rattle.lot_reconcile.specs.Table.{row_text}
use Rattle.lot_reconcile.proofs.rows.print_rows.Given as goal

-- the rows so far are written, and the others are left; no call failed
abbrev pub invariant-loop-commodity : goal.invariant-loop-commodity
invariant-loop-commodity g l =
    EachSoFar (row_text l.form) l.rows.entries l.commodity-iterator (g.W.CountedWrite.contents l.initial.writer) (g.W.CountedWrite.contents l.writer)
    × NoneFailed (g.W.CountedWrite.calls l.initial.writer) (g.W.CountedWrite.calls l.writer)
