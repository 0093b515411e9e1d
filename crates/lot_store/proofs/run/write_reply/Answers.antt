use Rattle.lot_store.proofs.OutputLemmas.{line_out}
use Rattle.lot_store.proofs.run.write_reply.Goals as goal

pub returns-clause-output : goal.returns-clause-output
returns-clause-output g c =
    line_out (g.W.CountedWrite.calls c.args.writer.now) (g.W.CountedWrite.calls c.print_reply-printed.new.writer) (g.W.CountedWrite.calls c.flush_line.new.writer)
    c.print_reply-printed.result _ _ c.flush_line.result c.print_reply-printed.ensures.none_failed c.flush_line.ensures.line
    (c.flush_line.ensures.output c.print_reply-printed.ensures.cause)
