use Rattle.std.proofs.Common.{[], ◌∷◌, ◌∙◌, arith, take}
use Rattle.lot_store.proofs.RunLemmas.{few_refused}
use Rattle.lot_atomic.proofs.RepliesLemmas.{cut_by_writer, numbered, one_cut, one_more}
use Rattle.lot_atomic.proofs.replies.write_each.Goals as goal

-- no more are refused than there are verdicts
pub overflow_add-refused : goal.overflow_add-refused
overflow_add-refused g c =
    let few = few_refused (take c.verdicts.index c.args.verdicts.now) in
    let one = few_refused (c.index-verdicts-index.result ∷ []) in
    omega (arith, few, one, c.verdicts.invariant.so.count, c.verdicts.invariant.so.refusals, c.refusals-refused.ensures, c.verdicts-test.true, c.requires.numbers)

pub returns-in-Err-clause-lines : goal.returns-in-Err-clause-lines
returns-in-Err-clause-lines g c =
    one_cut c.args.verdicts.now c.args.numbers.now c.requires.numbers c.verdicts.index _ c.verdicts.refused c.index-verdicts-index.result _
    c.index-verdicts-index.is c.verdicts-test.true (numbered c.args.numbers.now c.verdicts.index _ (omega (arith, c.verdicts-test.true, c.requires.numbers)))
    (g.W.CountedWrite.contents c.args.writer.now) (g.W.CountedWrite.contents c.verdicts.writer) (g.W.CountedWrite.contents c.print_reply.new.writer) c.verdicts.invariant.so
    (cut_by_writer c.in-Err.fault (g.W.CountedWrite.contents c.verdicts.writer) (g.W.CountedWrite.contents c.print_reply.new.writer) _ c.in-Err.ensures.fault c.in-Err.ensures.bytes)

pub verdicts-preserved : goal.verdicts-preserved
verdicts-preserved g c = record {
  so = rw c.refusals-refused.ensures (one_more c.args.verdicts.now c.args.numbers.now c.requires.numbers c.verdicts.index _ c.verdicts.refused c.index-verdicts-index.result _
      c.index-verdicts-index.is c.verdicts-test.true (numbered c.args.numbers.now c.verdicts.index _ (omega (arith, c.verdicts-test.true, c.requires.numbers)))
      (g.W.CountedWrite.contents c.args.writer.now) (g.W.CountedWrite.contents c.verdicts.writer) (g.W.CountedWrite.contents c.print_reply.new.writer) c.verdicts.invariant.so
      c.in-Ok.ensures.bytes);
  none_failed = c.in-Ok.ensures.none_failed ∙ c.verdicts.invariant.none_failed;
}
