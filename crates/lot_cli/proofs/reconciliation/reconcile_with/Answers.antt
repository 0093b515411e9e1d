use Rattle.std.specs.Prelude.{true}
use Rattle.std.proofs.Common.{subst, sym}
use Rattle.sqlite.specs.Held.{state}
use Rattle.lot_cli.specs.Reconcile.{differences_writing, terms_asked}
use Rattle.lot_cli.specs.Reports.{Reports}
use Rattle.lot_cli.proofs.ReportLemmas.{report_refused, reported}
use Rattle.lot_cli.proofs.reconciliation.reconcile_with.Goals as goal

pub returns-in-Ok-clause-reports : goal.returns-in-Ok-clause-reports
returns-in-Ok-clause-reports g c = λ lines has.
    let (agrees, shows) = c.reconcile_book.ensures.shows lines has in (
      agrees,
      reported (differences_writing (terms_asked lines c.args.asked.now) agrees) (state g.S.Store c.args.conn) (state g.S.Store c.in-Ok.book.conn) (state g.S.Store c.reconcile_book.result.conn) _ _
          (record { before = g.W.CountedWrite.calls c.args.writer.now; after = g.W.CountedWrite.calls c.reconcile_book.new.writer })
          (record { status = c.reconcile_book.result.status; halt = c.reconcile_book.result.halt })
          c.in-Ok.ensures.taken c.in-Ok.ensures.same c.in-Ok.ensures.crash_ok shows c.reconcile_book.ensures.goes_on,
    )

pub returns-in-Err-clause-reports : goal.returns-in-Err-clause-reports
returns-in-Err-clause-reports g c = λ lines has.
    let writing = differences_writing (terms_asked lines c.args.asked.now) true in (
      true,
      subst (λ conn. Reports writing (state g.S.Store c.args.conn) (state g.S.Store conn) (g.W.CountedWrite.contents c.args.writer.now) (g.W.CountedWrite.contents c.halted.new.writer) (record { before = g.W.CountedWrite.calls c.args.writer.now; after = g.W.CountedWrite.calls c.halted.new.writer }) (record { status = c.halted.result.status; halt = c.halted.result.halt }))
          (sym c.halted.ensures.same)
          (report_refused writing (state g.S.Store c.args.conn) (state g.S.Store c.in-Err.field-0.conn) _ _ (record { before = g.W.CountedWrite.calls c.args.writer.now; after = g.W.CountedWrite.calls c.halted.new.writer }) c.in-Err.field-0.fault (record { status = c.halted.result.status; halt = c.halted.result.halt })
          c.in-Err.ensures.tells_err c.in-Err.ensures.refused c.in-Err.ensures.handed_back c.in-Err.ensures.undone c.in-Err.ensures.crash_err
          c.halted.ensures.says),
    )
