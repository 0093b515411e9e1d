-- How many of the roles so far, as many as can be counted.
use Rattle.std.proofs.Common.{◌≡◌, ◌^◌, ◌-◌, min, take}
use Rattle.std.specs.List.{sum_by}
use Rattle.lot_roles.specs.Numbers.{rounded_parts}
use Rattle.lot_roles.proofs.numbers.rounded_in.Given as goal

abbrev pub invariant-loop-role : goal.invariant-loop-role
invariant-loop-role l = l.count ≡ min (sum_by (rounded_parts l.rules l.row) (take l.role-index l.roles)) (2 ^ 64 - 1)
