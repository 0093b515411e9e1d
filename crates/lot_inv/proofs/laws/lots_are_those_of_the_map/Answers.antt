use Rattle.lot_inv.proofs.LawLemmas.{lots_of-get}
use Rattle.lot_inv.proofs.laws.lots_are_those_of_the_map.Goals as goal

pub returns : goal.returns
returns c = lots_of-get
