use Rattle.std.specs.Prelude.{[], true}
use Rattle.std.proofs.Common.{subst}
use Rattle.lot_reconcile.specs.Table.{IsTable, terms_with}
use Rattle.lot_cli.specs.Reconcile.{terms_asked}
use Rattle.lot_cli.proofs.ReconcileLemmas.{short_of_memory}
use Rattle.lot_cli.proofs.reconciliation.write_differences.Goals as goal

pub write_table-requires-clause-fresh : goal.write_table-requires-clause-fresh
write_table-requires-clause-fresh g c =
    let (lines, has) = c.requires.said in (
      terms_asked lines c.args.asked.now,
      subst (λ terms. IsTable terms [] c.in-Ok.table) (λ i. terms_with lines (c.scope_of-scope.ensures i) (c.form_of.ensures i)) (c.in-Ok.ensures.table lines has),
    )

pub returns-in-Ok-clause-shows : goal.returns-in-Ok-clause-shows
returns-in-Ok-clause-shows g c = λ lines has.
    c.write_table.ensures.shows (terms_asked lines c.args.asked.now)
    (subst (λ terms. IsTable terms [] c.in-Ok.table) (λ i. terms_with lines (c.scope_of-scope.ensures i) (c.form_of.ensures i)) (c.in-Ok.ensures.table lines has))

pub returns-in-Err-clause-shows : goal.returns-in-Err-clause-shows
returns-in-Err-clause-shows g c = λ lines has. (
  true,
  short_of_memory g.S.Store (terms_asked lines c.args.asked.now) c.args.book.now c.in-Err.fault c.in-Err.ensures.cause c.requires.ready
      (g.W.CountedWrite.contents c.args.writer.now) (g.W.CountedWrite.contents c.conclude.new.writer) (g.W.CountedWrite.calls c.args.writer.now)
      (g.W.CountedWrite.calls c.conclude.new.writer) c.conclude.result c.conclude.ensures.concludes,
)
