use Rattle.lot_reconcile.proofs.TableLemmas.{table_end}
use Rattle.lot_reconcile.proofs.table.Reconciliation.write.Goals as goal

pub returns-clause-table : goal.returns-clause-table
returns-clause-table g c terms legs table = (_, table_end terms legs c.args.self.now table, c.print_table.ensures.lines)
