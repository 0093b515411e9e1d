use Rattle.std.proofs.Common.{subst, sym}
use Rattle.sqlite.specs.Held.{state}
use Rattle.lot_cli.specs.Reports.{ShowsBook, written_for}
use Rattle.lot_cli.proofs.report.write_report_of.Goals as goal

pub returns-clause-shows : goal.returns-clause-shows
returns-clause-shows g c =
    subst (λ conn. ShowsBook (written_for c.args.report.now) (state g.S.Store c.args.book.conn) (state g.S.Store conn) (g.W.CountedWrite.contents c.args.writer.now) (g.W.CountedWrite.contents c.write_whole-status.new.writer) (record { before = g.W.CountedWrite.calls c.args.writer.now; after = g.W.CountedWrite.calls c.write_whole-status.new.writer }) c.write_whole-status.result)
    (sym c.into_connection.ensures.same) c.write_whole-status.ensures.shows
