use Rattle.std.proofs.Common.{◌≡◌, ◌≤◌, ◌<◌, ℕ, pos, ◌*ℤ◌}
use Rattle.lot_rounding.proofs.ratio.with_old.Given as goal

-- no number so far is the new one
abbrev pub invariant-loop-candidate : goal.invariant-loop-candidate
invariant-loop-candidate l = (n : ℕ) → 1 ≤ n → n < l.candidate → l.fn.new *ℤ pos l.fn.part ≡ l.fn.old *ℤ pos n → ⊥
