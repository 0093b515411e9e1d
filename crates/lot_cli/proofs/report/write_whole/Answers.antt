use Rattle.lot_cli.proofs.ReportLemmas.{shows_book}
use Rattle.lot_cli.specs.Reports.{written_for}
use Rattle.lot_cli.proofs.report.write_whole.Goals as goal

pub returns-clause-shows : goal.returns-clause-shows
returns-clause-shows g c =
    shows_book g.S.Store (written_for c.args.report.now) c.args.book.now c.show-shown.new.book c.show-shown.result _ _ _ (g.W.CountedWrite.calls c.args.writer.now) (g.W.CountedWrite.calls c.show-shown.new.writer)
    (g.W.CountedWrite.calls c.conclude.new.writer) c.conclude.result c.requires.ready c.show-shown.ensures.reads c.show-shown.ensures.shows c.show-shown.ensures.some
    c.show-shown.ensures.rows c.show-shown.ensures.cause (c.conclude.ensures.concludes (g.W.CountedWrite.calls c.args.writer.now) c.show-shown.ensures.cause)
