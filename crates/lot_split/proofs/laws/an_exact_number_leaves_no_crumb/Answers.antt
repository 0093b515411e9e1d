-- The exact number is the nearest.
use Rattle.std.proofs.Common.{◌∙◌, ◌*ℤ◌, ℕ, pos, ap}
use Rattle.lot_split.proofs.NumberLemmas.{same_cost}
use Rattle.lot_split.proofs.OneLemmas.{exact_number}
use Rattle.lot_split.proofs.laws.an_exact_number_leaves_no_crumb.Goals as goal

pub returns-clause-number : goal.returns-clause-number
returns-clause-number c ratio lot split number proper becomes in_range exact = exact_number ratio lot split number proper becomes in_range exact

pub returns-clause-cost : goal.returns-clause-cost
returns-clause-cost c ratio lot split number proper becomes in_range exact =
    ap (λ (n : ℕ). split.units *ℤ pos n) (exact_number ratio lot split number proper becomes in_range exact)
    ∙ same_cost lot.units split.units lot.key.number number ratio.new ratio.old proper.least_old becomes.units exact
