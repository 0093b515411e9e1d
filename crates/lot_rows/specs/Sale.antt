-- The table `sale`.
use Rattle.std.specs.Prelude.{ℤ, pos, ◌≤ℤ◌, [], ◌∷◌, Option, Some, None, ⊤}
use Rattle.sqlite.specs.Order.{Row}
use Rattle.sqlite.specs.declared.types.Value.TheVariants.{Null, Int, Text}
use Rattle.sqlite.specs.declared.types.Value.{Value}
use Rattle.lot_base.specs.Day.{IsDayNumber}
use Rattle.lot_command.specs.declared.price.Price.TheVariants.{Each, Whole}
use Rattle.lot_command.specs.declared.price.Price.{Price}
use Rattle.lot_num.specs.Amount.{IsRate, IsUnits}
use Rattle.lot_base.specs.Name.{IsName, is_account, is_commodity}
use Rattle.lot_table.specs.Cell.{IsOrdinal, IsSum}
use Rattle.lot_rows.specs.declared.sale.SaleRow.{SaleRow}

-- ---- the price of a sale: kind, amount and currency

-- 0 for none, 1 for that of each unit, 2 for that of all
abbrev pub kind_of : Option Price → ℤ
kind_of None = pos 0
kind_of (Some (Each price)) = pos 1
kind_of (Some (Whole price)) = pos 2

abbrev pub amount_of : Option Price → Value
amount_of None = Null
amount_of (Some (Each price)) = Int (pos price.rate)
amount_of (Some (Whole price)) = Int price.0

abbrev pub currency_of : Option Price → Value
currency_of None = Null
currency_of (Some (Each price)) = Text price.currency
currency_of (Some (Whole price)) = Text price.1

abbrev pub IsPriceOrNone : Option Price → Type 0
IsPriceOrNone None = ⊤
IsPriceOrNone (Some (Each price)) = IsRate price.rate × IsName is_commodity price.currency
IsPriceOrNone (Some (Whole price)) = IsUnits price.0 × (pos 0 ≤ℤ price.0) × IsName is_commodity price.1

-- ---- rows

abbrev pub sale_cells : SaleRow → Row
sale_cells sale =
    Int (pos sale.entry) ∷ Int (pos sale.posting) ∷ Int sale.day ∷ Text sale.account ∷ Text sale.commodity ∷ Int sale.units
    ∷ Int (kind_of sale.price) ∷ amount_of sale.price ∷ currency_of sale.price ∷ []

pub record IsSaleRow (sale : SaleRow) : Type 0 where
  pub entry : IsOrdinal sale.entry
  pub posting : IsOrdinal sale.posting
  pub day : IsDayNumber sale.day
  pub account : IsName is_account sale.account
  pub commodity : IsName is_commodity sale.commodity
  pub units : IsSum sale.units
  pub price : IsPriceOrNone sale.price
