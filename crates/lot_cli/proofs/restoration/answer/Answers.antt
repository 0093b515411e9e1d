use Rattle.std.proofs.Common.{◌∙◌, append-nil, subst}
use Rattle.lot_report.specs.Written.{WritesLine}
use Rattle.lot_stream.specs.declared.status.Status.{Status}
use Rattle.lot_cli.specs.Restore.{answer_of}
use Rattle.lot_cli.specs.Says.{Says}
use Rattle.lot_cli.proofs.HaltLemmas.{failed_before, said}
use Rattle.lot_cli.proofs.restoration.answer.Goals as goal

pub returns-clause-says : goal.returns-clause-says
returns-clause-says g c =
    subst (λ (status : Status). Says (answer_of c.args.restored) status (g.W.CountedWrite.contents c.args.writer.now) (g.W.CountedWrite.contents c.tell.new.writer) (record { before = g.W.CountedWrite.calls c.args.writer.now; after = g.W.CountedWrite.calls c.tell.new.writer }) c.tell.result) c.status_of_restored.ensures
    (said (answer_of c.args.restored) c.status_of_restored.result _ _ _ _ _ _ c.print_texts-printed.result c.tell.result
    (subst (WritesLine (g.W.CountedWrite.contents c.args.writer.now) (g.W.CountedWrite.contents c.print_texts-printed.new.writer) c.print_texts-printed.result) (append-nil _ ∙ c.answer_of.ensures) c.print_texts-printed.ensures.bytes)
    c.tell.ensures.kept c.print_texts-printed.ensures.none_failed
    (failed_before g.W.CountedWrite.calls c.print_texts-printed.new.writer c.tell.new.writer c.print_texts-printed.result c.print_texts-printed.ensures.cause c.tell.ensures.unasked)
    c.tell.ensures.end)
