use Rattle.std.proofs.Common.{ℕ, ◌<◌}
use Rattle.lot_completion.specs.Formed.{IsFormedAt}
use Rattle.lot_completion.proofs.form.is_formed_at_any.Given as goal

-- at fewer decimals none is formed
abbrev pub invariant-loop-count : goal.invariant-loop-count
invariant-loop-count l = (decimals : ℕ) → decimals < l.count → IsFormedAt l.text l.cash decimals l.transaction l.crumbs → ⊥
