-- The sale that a row of the table `sale` and the legs of its posting say.
use Rattle.std.specs.Prelude.{◌≡◌, ℕ, ℤ, All, None, IfOk, List, map, OnErr, OnOk, Result, Err}
use Rattle.sqlite.specs.State.{HasCleanDisk, IsUnchanged, State, Survives}
use Rattle.lot_cost.specs.declared.lot_key.LotKey.{LotKey}
use Rattle.lot_book.specs.Leg.{legs_at_lots}
use Rattle.lot_book.specs.Sale.{AreLegsOf, SaleParts}
use Rattle.lot_rows.specs.Leg.{IsLegRow, leg_cells}
use Rattle.lot_rows.specs.Tables.{Has, Tables}
use Rattle.lot_rows.specs.declared.sale.SaleRow.{SaleRow}
use Rattle.lot_table.specs.Rows.{with_key}
use Rattle.lot_table.specs.Statement.{DiskFailed}
use Rattle.lot_table.specs.declared.fault.Fault.{Fault}
use Rattle.lot_table.specs.declared.fault.Fault.TheVariants.{Damaged, Device}
use Rattle.lot_stored.specs.Rows.{leg_row, posting_key}
use Rattle.lot_walk.specs.Gains.{sale_with}
use Rattle.lot_walk.specs.Step.{StaysOrGoesBack}

-- the table `leg`, whose rows are those that a book can have, has these legs of a row's posting
pub record HasRowsOf (row : SaleRow) (tables : Tables) (legs : List (LotKey × ℤ)) : Type 0 where
  pub account : List ℕ
  pub commodity : List ℕ
  pub rows : with_key leg_cells 2 (posting_key row.entry row.posting) tables.leg ≡ map leg_row (legs_at_lots row.entry row.posting account commodity 0 legs)
  pub good : All IsLegRow tables.leg

pub record TellsSale (row : SaleRow) (old new : State) (result : Result SaleParts Fault) : Type 0 where
  pub says : HasCleanDisk new → IfOk result (λ sale. (tables : Tables) → Has old tables → (legs : List (LotKey × ℤ)) → HasRowsOf row tables legs → sale ≡ sale_with row legs)
  -- it is the sale of the row, whatever the tables are
  pub of_row : IfOk result (λ sale. (legs : List (LotKey × ℤ)) × (sale ≡ sale_with row legs))
  pub good : IfOk result (λ sale. AreLegsOf sale.units sale.legs)
  pub same : HasCleanDisk new → OnOk result (IsUnchanged old new)
  pub damaged : HasCleanDisk new → result ≡ Err Damaged → old.step_limit ≡ None → (tables : Tables) → Has old tables → (legs : List (LotKey × ℤ)) → AreLegsOf row.units legs → ¬ HasRowsOf row tables legs
  pub device : HasCleanDisk new → result ≡ Err Device → DiskFailed old new
  pub left : HasCleanDisk new → OnErr result (StaysOrGoesBack old new)
  pub crash : Survives old new (λ _. ⊥)
