use Rattle.lot_reconcile.proofs.BalanceLemmas.{SaidSoFar}
use Rattle.lot_reconcile.proofs.rows.rows_of.Given as goal

-- those so far have their rows, and the others are left
abbrev pub invariant-loop-commodity : goal.invariant-loop-commodity
invariant-loop-commodity l = SaidSoFar l.rows.entries l.commodity-iterator l.fn.statement.entries
