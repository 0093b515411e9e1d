-- The table `allowed`.
use Rattle.std.specs.Prelude.{pos, [], ◌∷◌}
use Rattle.sqlite.specs.Order.{Row}
use Rattle.sqlite.specs.declared.types.Value.TheVariants.{Int, Text}
use Rattle.lot_base.specs.Name.{IsName, is_account, is_commodity}
use Rattle.lot_table.specs.Cell.{IsPlace}
use Rattle.lot_rows.specs.declared.allowed.AllowedRow.{AllowedRow}

abbrev pub allowed_cells : AllowedRow → Row
allowed_cells allowed = Text allowed.account ∷ Int (pos allowed.place) ∷ Text allowed.commodity ∷ []

pub record IsAllowedRow (allowed : AllowedRow) : Type 0 where
  pub account : IsName is_account allowed.account
  pub place : IsPlace allowed.place
  pub commodity : IsName is_commodity allowed.commodity
