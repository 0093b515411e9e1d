-- What every inventory keeps: units that become zero are held no more.
use Rattle.std.specs.Prelude.{◌≡◌}
use Rattle.std.specs.FinMap as finite
use Rattle.lot_inv.specs.Inventory.{Held, Position, non_zero, units_at}

-- no position holds zero units
abbrev pub HasNoZeros : Held → Type 0
HasNoZeros held = (position : Position) → finite.get held position ≡ non_zero (units_at held position)
