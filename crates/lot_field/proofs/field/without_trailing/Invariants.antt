use Rattle.std.proofs.Common.{◌≡◌, ◌≤◌, length}
use Rattle.lot_field.specs.Field.{without_trailing}
use Rattle.lot_field.proofs.field.without_trailing.Given as goal

-- only blanks were left out
abbrev pub invariant-loop-rest : goal.invariant-loop-rest
invariant-loop-rest l = (without_trailing l.rest ≡ without_trailing l.text) × (length l.rest ≤ length l.text)

abbrev pub decreases-loop-rest : goal.decreases-loop-rest
decreases-loop-rest l = length l.rest
