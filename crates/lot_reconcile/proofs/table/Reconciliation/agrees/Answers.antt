use Rattle.lot_reconcile.proofs.TableLemmas.{table_agrees}
use Rattle.lot_reconcile.proofs.table.Reconciliation.agrees.Goals as goal

pub returns : goal.returns
returns c terms legs table = table_agrees terms legs c.args.self.now table c.agree.result c.agree.ensures
