use Rattle.std.proofs.Common.{subst}
use Rattle.lot_cli.specs.Reconcile.{differences_writing}
use Rattle.lot_cli.specs.Reports.{Concludes}
use Rattle.lot_io.specs.Writes.{WritesMade}
use Rattle.lot_legs.specs.Legs.{dated_legs}
use Rattle.lot_cli.proofs.ReconcileLemmas.{agreed}
use Rattle.lot_cli.proofs.ReportLemmas.{shows_book}
use Rattle.lot_cli.proofs.reconciliation.write_table.Goals as goal

pub returns-clause-shows : goal.returns-clause-shows
returns-clause-shows g c = λ terms fresh.
    let shown = c.show_reconciliation-shown.result in
    let before = g.W.CountedWrite.contents c.args.writer.now in
    let mid = g.W.CountedWrite.contents c.show_reconciliation-shown.new.writer in
    let written = g.W.CountedWrite.contents c.conclude.new.writer in
    let calls : WritesMade = record { before = g.W.CountedWrite.calls c.show_reconciliation-shown.new.writer; after = g.W.CountedWrite.calls c.conclude.new.writer } in (
      c.agrees.result,
      shows_book g.S.Store (differences_writing terms c.agrees.result) c.args.book.now c.show_reconciliation-shown.new.book shown before mid written (g.W.CountedWrite.calls c.args.writer.now) (g.W.CountedWrite.calls c.show_reconciliation-shown.new.writer)
          (g.W.CountedWrite.calls c.conclude.new.writer) c.conclude.result c.requires.ready c.show_reconciliation-shown.ensures.reads
          (record {
            holds = λ clean entries stands. (
              (c.show_reconciliation-shown.ensures.shows terms fresh).holds clean entries stands,
              agreed terms (dated_legs entries) c.show_reconciliation-shown.new.table c.agrees.result shown c.agrees.ensures
                  ((c.show_reconciliation-shown.ensures.keeps terms fresh).holds clean entries stands),
            );
          })
          (c.show_reconciliation-shown.ensures.some terms fresh) (c.show_reconciliation-shown.ensures.rows terms fresh) c.show_reconciliation-shown.ensures.cause
          (subst (λ whole. Concludes whole shown mid written calls c.conclude.result) c.status_of_agreement.ensures
          (c.conclude.ensures.concludes (g.W.CountedWrite.calls c.args.writer.now) c.show_reconciliation-shown.ensures.cause)),
    )
