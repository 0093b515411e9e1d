use Rattle.std.proofs.Common.{◌≡◌}
use Rattle.lot_reconcile.specs.Table.{agree}
use Rattle.lot_reconcile.proofs.rows.agree.Given as goal

-- the rows so far agree
abbrev pub invariant-loop-row : goal.invariant-loop-row
invariant-loop-row l = agree l.rows.entries ≡ agree l.row-iterator
