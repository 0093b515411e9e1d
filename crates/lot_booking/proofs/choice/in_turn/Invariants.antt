use Rattle.std.proofs.Common.{◌≡◌, ◌≤◌, ◌-◌, ◌++◌, map, unsigned_abs}
use Rattle.lot_inv.specs.Inventory.{held_in}
use Rattle.lot_inv.specs.Lot.{key_and_units}
use Rattle.lot_booking.specs.Way.{walked}
use Rattle.lot_booking.proofs.choice.in_turn.Given as goal

-- the legs so far and those of what is left are those of all; what is still to be taken is what the lots so far left
abbrev pub invariant-loop-lot : goal.invariant-loop-lot
invariant-loop-lot l = record {
  legs : l.legs.items ++ walked l.units l.left (map key_and_units l.lot-iterator.rest.items)
      ≡ walked l.units (unsigned_abs l.units) (map key_and_units l.fn.lots.items);
  left : l.left - held_in (map key_and_units l.lot-iterator.rest.items) ≡ unsigned_abs l.units - held_in (map key_and_units l.fn.lots.items);
  within : l.left ≤ unsigned_abs l.units;
}
