use Rattle.std.proofs.Common.{subst, sym}
use Rattle.sqlite.specs.Held.{state}
use Rattle.lot_cli.specs.Reconcile.{differences_writing, terms_asked}
use Rattle.lot_cli.specs.Reports.{ShowsBook}
use Rattle.lot_cli.proofs.reconciliation.reconcile_book.Goals as goal

pub returns-clause-shows : goal.returns-clause-shows
returns-clause-shows g c = λ lines has.
    let (agrees, shows) = c.write_differences-status.ensures.shows lines has in (
      agrees,
      subst (λ conn. ShowsBook (differences_writing (terms_asked lines c.args.asked.now) agrees) (state g.S.Store c.args.book.conn) (state g.S.Store conn) (g.W.CountedWrite.contents c.args.writer.now) (g.W.CountedWrite.contents c.write_differences-status.new.writer) (record { before = g.W.CountedWrite.calls c.args.writer.now; after = g.W.CountedWrite.calls c.write_differences-status.new.writer }) c.write_differences-status.result)
          (sym c.into_connection.ensures.same) shows,
    )
