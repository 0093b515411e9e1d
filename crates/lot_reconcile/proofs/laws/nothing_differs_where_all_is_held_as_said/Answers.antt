use Rattle.lot_reconcile.proofs.LawLemmas.{agree_where_held}
use Rattle.lot_reconcile.proofs.laws.nothing_differs_where_all_is_held_as_said.Goals as goal

pub returns : goal.returns
returns c = agree_where_held
