-- The fields so far, and those that are left.
use Rattle.std.proofs.Common.{◌≡◌, ◌++◌, drop, map}
use Rattle.lot_roles.specs.Keys.{key_fields}
use Rattle.lot_roles.proofs.keys.key_fields.Given as goal

abbrev pub invariant-loop-place : goal.invariant-loop-place
invariant-loop-place l =
    key_fields l.form l.row.header 0 l.row.fields
    ≡ map (λ field. field.now) l.fields.items ++ key_fields l.form l.row.header l.place (drop l.place l.row.fields)
