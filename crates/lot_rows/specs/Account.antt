-- The table `account`.
use Rattle.std.specs.Prelude.{[], ◌∷◌}
use Rattle.sqlite.specs.Order.{Row}
use Rattle.sqlite.specs.Values.{or_null}
use Rattle.sqlite.specs.declared.types.Value.TheVariants.{Int, Text}
use Rattle.lot_base.specs.Day.{IsDayNumber}
use Rattle.lot_cost.specs.Method.{word_of}
use Rattle.lot_base.specs.Name.{IsName, is_account}
use Rattle.lot_table.specs.Cell.{IsDayOrNone}
use Rattle.lot_rows.specs.declared.account.AccountRow.{AccountRow}

abbrev pub account_cells : AccountRow → Row
account_cells account = Text account.name ∷ Int account.opened ∷ or_null Int account.closed ∷ Text (word_of account.method) ∷ []

pub record IsAccountRow (account : AccountRow) : Type 0 where
  pub name : IsName is_account account.name
  pub opened : IsDayNumber account.opened
  pub closed : IsDayOrNone account.closed
