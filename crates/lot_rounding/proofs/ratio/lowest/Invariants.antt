use Rattle.std.proofs.Common.{◌≡◌, ◌≤◌, ◌<◌, ℕ, pos, ◌*ℤ◌}
use Rattle.lot_rounding.specs.Ratio.{most_in_ratio}
use Rattle.lot_rounding.proofs.ratio.lowest.Given as goal

-- no number so far is the old one
abbrev pub invariant-loop-part : goal.invariant-loop-part
invariant-loop-part l = (o n : ℕ) → 1 ≤ o → o < l.part → 1 ≤ n → n ≤ most_in_ratio → l.fn.new *ℤ pos o ≡ l.fn.old *ℤ pos n → ⊥
