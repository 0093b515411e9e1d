-- The table `opening`.
use Rattle.std.specs.Prelude.{pos, [], ◌∷◌}
use Rattle.sqlite.specs.Order.{Row}
use Rattle.sqlite.specs.declared.types.Value.TheVariants.{Int}
use Rattle.lot_base.specs.Name.{IsName, is_account, is_commodity}
use Rattle.lot_table.specs.Cell.{IsOpeningNumber}
use Rattle.lot_rows.specs.LotKey.{IsLotKey, lot_columns}
use Rattle.lot_rows.specs.declared.opening.OpeningRow.{OpeningRow}

abbrev pub opening_cells : OpeningRow → Row
opening_cells row = lot_columns row.account row.commodity row.lot (Int (pos row.opening) ∷ [])

pub record IsOpeningRow (row : OpeningRow) : Type 0 where
  pub account : IsName is_account row.account
  pub commodity : IsName is_commodity row.commodity
  pub lot : IsLotKey row.lot
  pub opening : IsOpeningNumber row.opening
