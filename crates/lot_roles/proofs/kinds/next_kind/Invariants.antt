-- No kind so far is the row's.
use Rattle.std.proofs.Common.{ℕ, ◌<◌, ◌≤◌}
use Rattle.lot_roles.specs.Kinds.{HoldsAt}
use Rattle.lot_roles.proofs.kinds.next_kind.Given as goal

abbrev pub invariant-loop-place : goal.invariant-loop-place
invariant-loop-place l = (other : ℕ) → l.from ≤ other → other < l.place → HoldsAt l.form l.row l.kinds other → ⊥
