use Rattle.lot_call.proofs.ToldLemmas.{told_word}
use Rattle.lot_call.proofs.told.word_to.Goals as goal

pub returns : goal.returns
returns g c =
    told_word c.args.word.now _ c.explain-told.result _ _ _ _ _ c.end_told.ensures c.explain-told.ensures c.end-writer.ensures.whole
    c.status_behind.ensures
