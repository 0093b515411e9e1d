use Rattle.std.proofs.Common.{refl}
use Rattle.lot_reconcile.proofs.table.Reconciliation.new.Goals as goal

pub returns-clause-table : goal.returns-clause-table
returns-clause-table c lines has = (refl, refl, tt, c.in_ok-rows.ensures.rows lines has)
