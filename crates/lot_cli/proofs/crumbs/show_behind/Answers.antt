-- Behind a run that came to its end stands what the book holds.
use Rattle.std.proofs.Common.{◌∙◌, ap}
use Rattle.sqlite.specs.Held.{state}
use Rattle.lot_stream.specs.Status.{code_of}
use Rattle.lot_cli.specs.Check.{status_behind}
use Rattle.lot_cli.proofs.CheckLemmas.{shows_behind}
use Rattle.lot_cli.proofs.crumbs.show_behind.Goals as goal

pub returns-in-Complete-clause-behind : goal.returns-in-Complete-clause-behind
returns-in-Complete-clause-behind g c clean entries stands =
    let posted = c.code-status.ensures.value ∙ ap code_of c.status_of_run.ensures in
    let status = c.status_behind.ensures ∙ ap (λ p. status_behind p c.write_whole.result) posted in
    shows_behind c.args.end.ending c.in-Complete.is (state g.S.Store c.args.book.now.conn) (state g.S.Store c.write_whole.new.book.conn) (g.W.CountedWrite.contents c.args.writer.now)
    (g.W.CountedWrite.contents c.write_whole.new.writer) _ _ c.write_whole.result c.status_behind.result c.write_whole.ensures.shows status clean entries
    (stands c.in-Complete.is)
