use Rattle.std.proofs.Common.{◌≡◌, ◌*◌, ◌≤◌, map, take}
use Rattle.lot_num.specs.Amount.{units_limit}
use Rattle.lot_inv.specs.Inventory.{held_in}
use Rattle.lot_inv.specs.Lot.{key_and_units}
use Rattle.lot_booking.proofs.choice.held_in.Given as goal

-- what the lots so far hold, each of them less than the limit of units
abbrev pub invariant-loop-lot : goal.invariant-loop-lot
invariant-loop-lot l = record {
  sum : l.held ≡ held_in (map key_and_units (take l.lot-index l.lots));
  room : l.held ≤ l.lot-index * units_limit;
}
