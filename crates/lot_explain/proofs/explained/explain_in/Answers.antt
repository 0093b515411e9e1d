use Rattle.lot_explain.proofs.ExplainedLemmas.{one_more}
use Rattle.lot_explain.specs.Explained.{text_if_named}
use Rattle.lot_explain.proofs.explained.explain_in.Goals as goal

pub loop-code-preserved : goal.loop-code-preserved
loop-code-preserved g c =
    one_more (text_if_named c.args.word.now) c.args.table.now c.loop-code.code-index _ (g.W.Write.contents c.args.writer.now)
    (g.W.Write.contents c.loop-code.writer) (g.W.Write.contents c.explain_code.new.writer) c.loop-code-test.true c.loop-code.invariant
    c.in_ok-explain_code.ensures
