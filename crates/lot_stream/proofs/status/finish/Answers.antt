use Rattle.lot_stream.proofs.StatusLemmas.{flush_ends, flush_none_failed}
use Rattle.lot_stream.proofs.status.finish.Goals as goal

pub returns-in-Ok-clause-end : goal.returns-in-Ok-clause-end
returns-in-Ok-clause-end g c =
    rw (c.in-Ok.is)
    (flush_ends (g.W.CountedWrite.calls c.args.writer.now) (g.W.CountedWrite.calls c.flush_counted.new.self) c.flush_counted.result c.in-Ok.status
    c.after_flush.result c.flush_counted.ensures.calls c.after_flush.ensures)

pub returns-in-Ok-clause-none_failed : goal.returns-in-Ok-clause-none_failed
returns-in-Ok-clause-none_failed g c =
    flush_none_failed (g.W.CountedWrite.calls c.args.writer.now) (g.W.CountedWrite.calls c.flush_counted.new.self) c.flush_counted.result c.in-Ok.status
    c.after_flush.result c.flush_counted.ensures.calls c.after_flush.ensures
