use Rattle.std.proofs.Common.{sym}
use Rattle.lot_cli.proofs.action.serve.Goals as goal

pub returns-in-Post-clause-serves : goal.returns-in-Post-clause-serves
returns-in-Post-clause-serves g c = rw c.in-Post.is c.post.ensures.posts

pub returns-in-PostRow-clause-serves : goal.returns-in-PostRow-clause-serves
returns-in-PostRow-clause-serves g c = rw (c.in-PostRow.is, sym c.as_ref-rounding.ensures.value) c.post_row.ensures.posts

pub returns-in-Import-clause-serves : goal.returns-in-Import-clause-serves
returns-in-Import-clause-serves g c = rw c.in-Import.is c.import.ensures.imports

pub returns-in-ImportBy-clause-serves : goal.returns-in-ImportBy-clause-serves
returns-in-ImportBy-clause-serves g c = rw c.in-ImportBy.is c.import_by.ensures.imports

pub returns-in-Report-clause-serves : goal.returns-in-Report-clause-serves
returns-in-Report-clause-serves g c = rw c.in-Report.is c.write_report.ensures.reports

pub returns-in-Restore-clause-serves : goal.returns-in-Restore-clause-serves
returns-in-Restore-clause-serves g c = rw c.in-Restore.is c.restore.ensures.restores

pub returns-in-Reconcile-clause-serves : goal.returns-in-Reconcile-clause-serves
returns-in-Reconcile-clause-serves g c = rw c.in-Reconcile.is c.reconcile.ensures.reconciles
