use Rattle.std.proofs.Common.{◌≡◌, ◌≤◌, length}
use Rattle.lot_field.specs.Field.{without_leading}
use Rattle.lot_field.proofs.field.without_leading.Given as goal

-- only blanks were left out
abbrev pub invariant-loop-rest : goal.invariant-loop-rest
invariant-loop-rest l = (without_leading l.rest ≡ without_leading l.text) × (length l.rest ≤ length l.text)

abbrev pub decreases-loop-rest : goal.decreases-loop-rest
decreases-loop-rest l = length l.rest
