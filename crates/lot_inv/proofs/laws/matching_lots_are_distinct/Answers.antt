use Rattle.lot_inv.proofs.LawLemmas.{sorted_matching}
use Rattle.lot_inv.proofs.laws.matching_lots_are_distinct.Goals as goal

pub returns : goal.returns
returns c = sorted_matching
