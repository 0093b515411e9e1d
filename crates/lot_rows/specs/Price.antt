-- The table `price`.
use Rattle.std.specs.Prelude.{pos, [], ◌∷◌}
use Rattle.sqlite.specs.Order.{Row}
use Rattle.sqlite.specs.declared.types.Value.TheVariants.{Int, Text}
use Rattle.lot_base.specs.Day.{IsDayNumber}
use Rattle.lot_num.specs.Amount.{IsRate}
use Rattle.lot_base.specs.Name.{IsName, is_commodity}
use Rattle.lot_rows.specs.declared.price.PriceRow.{PriceRow}

abbrev pub price_cells : PriceRow → Row
price_cells price = Text price.base ∷ Text price.quote ∷ Int price.day ∷ Int (pos price.rate) ∷ []

pub record IsPriceRow (price : PriceRow) : Type 0 where
  pub base : IsName is_commodity price.base
  pub quote : IsName is_commodity price.quote
  pub day : IsDayNumber price.day
  pub rate : IsRate price.rate
