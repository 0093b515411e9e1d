use Rattle.lot_explain.proofs.ExplainedLemmas.{one_more}
use Rattle.lot_explain.specs.Explained.{text_if_cause}
use Rattle.lot_explain.proofs.explained.explain_causes.Goals as goal

pub loop-cause-preserved : goal.loop-cause-preserved
loop-cause-preserved g c =
    one_more (text_if_cause c.args.word.now) c.args.causes.now c.loop-cause.cause-index _ (g.W.Write.contents c.args.writer.now)
    (g.W.Write.contents c.loop-cause.writer) (g.W.Write.contents c.explain_cause.new.writer) c.loop-cause-test.true c.loop-cause.invariant
    c.in_ok-explain_cause.ensures
