-- The table `head`.
use Rattle.std.specs.Prelude.{[], ◌∷◌}
use Rattle.sqlite.specs.Order.{Row}
use Rattle.sqlite.specs.declared.types.Value.TheVariants.{Int, Text}
use Rattle.lot_base.specs.Day.{IsDayNumber}
use Rattle.lot_base.specs.Name.{IsName, is_account, is_commodity}
use Rattle.lot_rows.specs.declared.head.HeadRow.{HeadRow}

abbrev pub head_cells : HeadRow → Row
head_cells head = Text head.account ∷ Text head.commodity ∷ Int head.day ∷ []

pub record IsHeadRow (head : HeadRow) : Type 0 where
  pub account : IsName is_account head.account
  pub commodity : IsName is_commodity head.commodity
  pub day : IsDayNumber head.day
