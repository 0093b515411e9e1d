use Rattle.lot_store.proofs.OutputLemmas.{cut_out, flush_out}
use Rattle.lot_store.proofs.run.flush_line.Goals as goal

pub returns-in-Ok-clause-output : goal.returns-in-Ok-clause-output
returns-in-Ok-clause-output g c = λ failed. flush_out _ _ c.flush_counted.result c.flushed.result c.flush_counted.ensures.calls c.flushed.ensures

pub returns-in-Err-clause-output : goal.returns-in-Err-clause-output
returns-in-Err-clause-output g c = λ failed. cut_out c.args.printed c.in-Err.field-0 (g.W.CountedWrite.calls c.args.writer.now) (g.W.CountedWrite.calls c.args.writer.now) c.in-Err.is failed
