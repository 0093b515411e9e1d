use Rattle.lot_explain.proofs.ExplainedLemmas.{explains}
use Rattle.lot_explain.proofs.explained.explain.Goals as goal

pub returns : goal.returns
returns g c =
    explains c.args.word.now c.tables.result c.causes.result.now (g.W.Write.contents c.args.writer.now)
    (g.W.Write.contents c.explain_all.new.writer) c.explain_all.result c.explain_all.ensures.flag c.explain_all.ensures.text
