-- The table `lot`.
use Rattle.std.specs.Prelude.{[], ◌∷◌}
use Rattle.sqlite.specs.Order.{Row}
use Rattle.sqlite.specs.declared.types.Value.TheVariants.{Int}
use Rattle.lot_base.specs.Name.{IsName, is_account, is_commodity}
use Rattle.lot_table.specs.Cell.{IsSum}
use Rattle.lot_rows.specs.LotKey.{IsLotKey, lot_columns}
use Rattle.lot_rows.specs.declared.lot.LotRow.{LotRow}

abbrev pub lot_cells : LotRow → Row
lot_cells row = lot_columns row.account row.commodity row.lot (Int row.units ∷ [])

pub record IsLotRow (row : LotRow) : Type 0 where
  pub account : IsName is_account row.account
  pub commodity : IsName is_commodity row.commodity
  pub lot : IsLotKey row.lot
  pub units : IsSum row.units
