use Rattle.lot_call.proofs.LookLemmas.{looked_then}
use Rattle.lotbook.proofs.answer.speak.Goals as goal

pub returns : goal.returns
returns g c = looked_then _ _ _ c.explain.ensures c.conclude.ensures
