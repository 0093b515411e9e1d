use Rattle.std.proofs.Common.{subst, sym}
use Rattle.sqlite.specs.Held.{state}
use Rattle.lot_cli.specs.Reports.{ShowsBook, digest_writing}
use Rattle.lot_cli.proofs.ReportLemmas.{shows_book}
use Rattle.lot_cli.proofs.report.write_digest.Goals as goal

pub returns-clause-shows : goal.returns-clause-shows
returns-clause-shows g c =
    subst (λ conn. ShowsBook digest_writing (state g.S.Store c.args.book.conn) (state g.S.Store conn) (g.W.CountedWrite.contents c.args.writer.now) (g.W.CountedWrite.contents c.conclude.new.writer) (record { before = g.W.CountedWrite.calls c.args.writer.now; after = g.W.CountedWrite.calls c.conclude.new.writer }) c.conclude.result)
    (sym c.into_connection.ensures.same)
    (shows_book g.S.Store digest_writing c.args.book c.show_digest-shown.new.book c.show_digest-shown.result _ _ _ (g.W.CountedWrite.calls c.args.writer.now) (g.W.CountedWrite.calls c.show_digest-shown.new.writer)
    (g.W.CountedWrite.calls c.conclude.new.writer) c.conclude.result c.requires.ready c.show_digest-shown.ensures.reads c.show_digest-shown.ensures.shows c.show_digest-shown.ensures.some
    c.show_digest-shown.ensures.rows c.show_digest-shown.ensures.cause (c.conclude.ensures.concludes (g.W.CountedWrite.calls c.args.writer.now) c.show_digest-shown.ensures.cause))
