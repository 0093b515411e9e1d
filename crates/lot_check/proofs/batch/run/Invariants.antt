use Rattle.lot_io.specs.Writes.{NoneFailed}
use Rattle.lot_check.proofs.RunLemmas.{RanSoFar}
use Rattle.lot_check.proofs.batch.run.Given as goal

-- the commands so far were judged and replied to, and no call of the writer failed
abbrev pub invariant-loop-index : goal.invariant-loop-index
invariant-loop-index g l = record {
  ran : RanSoFar l.fn.commands.items l.index-iterator.iter.rest.items l.index-iterator.count l.view l.status
      (g.W.CountedWrite.contents l.initial.writer) (g.W.CountedWrite.contents l.writer);
  none_failed : NoneFailed (g.W.CountedWrite.calls l.initial.writer) (g.W.CountedWrite.calls l.writer);
}
