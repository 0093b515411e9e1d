-- What a row of a purchase or of a sale says (docs/FORMATS.md, Profiles).
use Rattle.std.specs.Prelude.{ℕ, Bool, true, false, Option, Some, Ok, ℤ, neg_ℤ}
use Rattle.lot_base.specs.Text.{same_text}
use Rattle.lot_profile.specs.declared.basis.CostBasis.{CostBasis}
use Rattle.lot_profile.specs.declared.basis.CostBasis.TheVariants as cost
use Rattle.lot_profile.specs.declared.role.Role.TheVariants as role
use Rattle.lot_roles.specs.Numbers.{rate_of}
use Rattle.lot_roles.specs.Reading.{Read, ◌>>=◌, or_fault}
use Rattle.lot_roles.specs.Rules.{has_sources}
use Rattle.lot_roles.specs.declared.fault.RowFault.TheVariants.{PriceApart, TooLarge}
use Rattle.lot_roles.specs.declared.rules.Rules.{Rules}
use Rattle.lot_sheet.specs.Sheet.{SheetRow}
use Rattle.lot_deal_read.specs.Money.{apart_from, fee_of, so_much, within_currency}
use Rattle.lot_deal_read.specs.Needed.{amount_in, currency_in, currency_or, must, needed, price_in, symbol_in, units_in}
use Rattle.lot_deal_read.specs.Worth.{worth_of}
use Rattle.lot_deal_read.specs.declared.money.Money.{Money}
use Rattle.lot_deal_read.specs.declared.trade_row.Pricing.{Pricing}
use Rattle.lot_deal_read.specs.declared.trade_row.Pricing.TheVariants as pricing
use Rattle.lot_deal_read.specs.declared.trade_row.TradeRow.{TradeRow}

-- ---- The price.

-- the price, which a row needs where it is the cost
abbrev pub pricing_by : CostBasis → Rules → SheetRow → Read Pricing
pricing_by cost.Amount rules row = rate_of rules row role.Price >>= λ price. Ok (pricing.Printed price)
pricing_by cost.Price rules row = price_in rules row >>= λ price. Ok (pricing.Cost price)

abbrev pub price_of : Pricing → Option ℕ
price_of (pricing.Printed price) = price
price_of (pricing.Cost price) = Some price

-- ---- All that it says, but the amount.

unfoldable pub trade_row_of : Rules → SheetRow → Read TradeRow
trade_row_of rules row = do
  symbol ← symbol_in rules row
  units ← units_in rules row
  currency ← currency_in rules row role.Currency
  pricing ← pricing_by rules.profile.now.basis.cost rules row
  price_currency ← currency_or rules row role.PriceCurrency currency
  fee ← fee_of rules row currency
  Ok (record { symbol = symbol; units = units; currency = currency; pricing = pricing; price_currency = price_currency; fee = fee })

-- ---- The fee: one in the currency of the cash, or in that of the price, is in the amount; one in a third was paid beside it.

-- how much of it is in the currency of the cash
abbrev pub cash_fee : TradeRow → ℤ
cash_fee said = so_much (within_currency said.currency said.fee)

-- how much of it is in the currency of the price, where that is another
abbrev pub price_fee : TradeRow → ℤ
price_fee said = so_much (within_currency said.price_currency (apart_from said.currency said.fee))

-- the fee in a third currency
abbrev pub third_fee : TradeRow → Option Money
third_fee said = apart_from said.price_currency (apart_from said.currency said.fee)

-- whether the price is in the currency of the cash
abbrev pub has_one_currency : TradeRow → Bool
has_one_currency said = same_text said.price_currency said.currency

-- ---- The amount.

-- what the cash got by units, price and fee, in one currency
abbrev pub by_price : TradeRow → ℕ → Read ℤ
by_price said price = or_fault (TooLarge role.Amount) (worth_of said.units price (cash_fee said)) >>= λ worth. Ok (neg_ℤ worth)

-- the amount that no column has
abbrev pub worked_out : TradeRow → Read ℤ
worked_out said = do
  price ← needed role.Price (price_of said.pricing)
  _ ← must PriceApart (has_one_currency said)
  by_price said price

abbrev pub amount_by : Bool → Rules → SheetRow → TradeRow → Read ℤ
amount_by true rules row said = amount_in rules row role.Amount
amount_by false rules row said = worked_out said

-- The amount: where the profile names a column for it, what that says and nothing else.
abbrev pub amount_for : Rules → SheetRow → TradeRow → Read ℤ
amount_for rules row said = amount_by (has_sources rules role.Amount) rules row said
