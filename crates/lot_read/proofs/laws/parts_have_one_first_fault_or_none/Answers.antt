-- Each part is within its rule or it isn't.
use Rattle.lot_read.proofs.DecisionLemmas.{inside_or_not}
use Rattle.lot_read.proofs.ItemLemmas.{one_fault, not_both}
use Rattle.lot_read.proofs.laws.parts_have_one_first_fault_or_none.Goals as goal

pub returns-clause-some : goal.returns-clause-some
returns-clause-some c = inside_or_not

pub returns-clause-one : goal.returns-clause-one
returns-clause-one c = one_fault

pub returns-clause-not_both : goal.returns-clause-not_both
returns-clause-not_both c = not_both
