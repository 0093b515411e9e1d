use Rattle.lot_compare.proofs.LawLemmas.{none_differ}
use Rattle.lot_compare.proofs.laws.equal_amounts_dont_differ.Goals as goal

pub returns : goal.returns
returns c = none_differ
