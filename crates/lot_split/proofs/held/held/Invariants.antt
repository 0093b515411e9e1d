use Rattle.std.proofs.Common.{◌≡◌, ◌++◌, map}
use Rattle.lot_inv.specs.Lot.{key_and_units as listed}
use Rattle.lot_split.specs.Held.{key_and_units}
use Rattle.lot_split.proofs.held.held.Given as goal

-- the lots so far and those that are left are all
abbrev pub invariant-loop-lot : goal.invariant-loop-lot
invariant-loop-lot l = map key_and_units l.held ++ map listed l.lot-iterator.rest.items ≡ map listed l.fn.lots.items
