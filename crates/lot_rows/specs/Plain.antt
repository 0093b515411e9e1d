-- The table `plain`.
use Rattle.std.specs.Prelude.{[], ◌∷◌}
use Rattle.sqlite.specs.Order.{Row}
use Rattle.sqlite.specs.declared.types.Value.TheVariants.{Int, Text}
use Rattle.lot_base.specs.Name.{IsName, is_account, is_commodity}
use Rattle.lot_table.specs.Cell.{IsSum}
use Rattle.lot_rows.specs.declared.plain.PlainRow.{PlainRow}

abbrev pub plain_cells : PlainRow → Row
plain_cells plain = Text plain.account ∷ Text plain.commodity ∷ Int plain.units ∷ []

pub record IsPlainRow (plain : PlainRow) : Type 0 where
  pub account : IsName is_account plain.account
  pub commodity : IsName is_commodity plain.commodity
  pub units : IsSum plain.units
