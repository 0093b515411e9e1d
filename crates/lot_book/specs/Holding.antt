-- The rows of what accounts hold.
use Rattle.std.specs.Prelude.{◌≡◌, List, map, ℤ}
use Rattle.std.specs.List.Sorted.{IsStrictlySortedBy}
use Rattle.std.specs.Map.{lookup}
use Rattle.lot_inv.specs.Inventory.{non_zero}
use Rattle.lot_book.specs.declared.holding.Holding.{Holding}
use Rattle.lot_book.specs.declared.leg.Position.{Position}
use Rattle.lot_book.specs.Change.{units_before}
use Rattle.lot_book.specs.Facts.{Facts}
use Rattle.lot_book.specs.Leg.{position_cmp, same_position}

-- the position of a row
abbrev pub position_of : Holding → Position
position_of row = record { account = row.account; commodity = row.commodity; lot = row.lot }

-- a row as its position and its units
abbrev pub entry_of : Holding → Position × ℤ
entry_of row = (position_of row, row.units)

-- Rows list what facts hold: each position that holds some units once, in the order of the positions, and no other.
pub record ListsHoldings (facts : Facts) (rows : List Holding) : Type 0 where
  pub in_order : IsStrictlySortedBy position_cmp (map position_of rows)
  pub each : (position : Position) → lookup (same_position position) (map entry_of rows) ≡ non_zero (units_before facts position)
