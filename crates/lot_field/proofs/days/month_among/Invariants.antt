use Rattle.std.proofs.Common.{◌≡◌, ◌+◌, drop, map}
use Rattle.lot_field.specs.Days.{month_among}
use Rattle.lot_field.proofs.days.month_among.Given as goal

-- none of the names so far
abbrev pub invariant-loop-one : goal.invariant-loop-one
invariant-loop-one l =
    (month_among (map (λ one. one.now) (drop l.one-index l.names)) l.month l.name ≡ month_among (map (λ one. one.now) l.names) 1 l.name)
    × (l.month ≡ l.one-index + 1)
