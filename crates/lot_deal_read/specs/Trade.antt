-- The trade that a row of a purchase or of a sale comes to (docs/FORMATS.md, Profiles).
use Rattle.std.specs.Prelude.{ℕ, Bool, true, false, not, ◌&&◌, ◌||◌, int_lt, List, Option, Some, None, Ok, ℤ, pos, ◌+ℤ◌, neg_ℤ}
use Rattle.std.specs.Ordering.{int_eq}
use Rattle.lot_deal.specs.declared.cash.Fee.{Fee}
use Rattle.lot_deal.specs.declared.cash.Movement.{Movement}
use Rattle.lot_deal.specs.declared.trade.Sale.{Sale}
use Rattle.lot_deal.specs.declared.trade.Trade.{Trade}
use Rattle.lot_deal.specs.declared.trade.TradePrice.{TradePrice}
use Rattle.lot_deal.specs.declared.trade.Worth.{Worth}
use Rattle.lot_profile.specs.declared.account.AccountRole.TheVariants as account
use Rattle.lot_profile.specs.declared.role.Role.TheVariants as role
use Rattle.lot_roles.specs.Accounts.{account_of}
use Rattle.lot_roles.specs.Numbers.{in_units}
use Rattle.lot_roles.specs.Reading.{Read, ◌>>=◌, if_any, or_fault}
use Rattle.lot_roles.specs.declared.fault.RowFault.TheVariants.{PriceSign, Signs, TooLarge}
use Rattle.lot_roles.specs.declared.rules.Rules.{Rules}
use Rattle.lot_sheet.specs.Sheet.{SheetRow}
use Rattle.lot_deal_read.specs.Comparison.{comparison}
use Rattle.lot_deal_read.specs.Money.{apart_from, within_currency}
use Rattle.lot_deal_read.specs.Needed.{must}
use Rattle.lot_deal_read.specs.TradeRow.{amount_for, cash_fee, has_one_currency, price_fee, price_of, third_fee, trade_row_of}
use Rattle.lot_deal_read.specs.Worth.{worth_of}
use Rattle.lot_deal_read.specs.declared.money.Money.{Money}
use Rattle.lot_deal_read.specs.declared.says.Compared.{Compared}
use Rattle.lot_deal_read.specs.declared.trade_row.Pricing.{Pricing}
use Rattle.lot_deal_read.specs.declared.trade_row.Pricing.TheVariants as pricing
use Rattle.lot_deal_read.specs.declared.trade_row.TradeRow.{TradeRow}
use Rattle.lot_deal_read.specs.declared.trades.Direction.{Direction}
use Rattle.lot_deal_read.specs.declared.trades.Direction.TheVariants.{In, Out}
use Rattle.lot_deal_read.specs.declared.trades.Settled.{Settled}
use Rattle.lot_deal_read.specs.declared.trades.Traded.{Traded}

-- ---- Signs.

-- units come in and cash goes out; or units go out, and no cash does
abbrev pub goes : Direction → ℤ → ℤ → Bool
goes In units amount = int_lt (pos 0) units && int_lt amount (pos 0)
goes Out units amount = int_lt units (pos 0) && not (int_lt amount (pos 0))

-- two amounts have opposite signs, or both are zero
abbrev pub are_opposite : ℤ → ℤ → Bool
are_opposite a b =
    int_lt (pos 0) a && int_lt b (pos 0) || int_lt a (pos 0) && int_lt (pos 0) b || int_eq a (pos 0) && int_eq b (pos 0)

-- ---- Fees.

-- a fee out of the cash of its currency to the account of fees
unfoldable pub paid_beside : Rules → SheetRow → Money → Read Movement
paid_beside rules row fee = do
  fees ← account_of rules row account.Fees fee.currency
  cash ← account_of rules row account.Cash fee.currency
  Ok (record { amount = neg_ℤ fee.amount; currency = fee.currency; cash = cash; account = fees })

-- a fee to the account of fees
abbrev pub fee_to : Rules → SheetRow → Money → Read Fee
fee_to rules row fee = account_of rules row account.Fees fee.currency >>= λ fees. Ok (record { amount = fee.amount; account = fees })

-- ---- Where the amount is the cost: a fee is in it, unless it was paid in a third currency.

unfoldable pub by_amount : Rules → SheetRow → TradeRow → ℤ → Read Trade
by_amount rules row said amount = do
  invest ← account_of rules row account.Invest said.currency
  cash ← account_of rules row account.Cash said.currency
  beside ← if_any (paid_beside rules row) (third_fee said)
  Ok (record {
    symbol = said.symbol;
    units = said.units;
    amount = amount;
    currency = said.currency;
    price = None;
    beside = beside;
    invest = invest;
    cash = cash;
  })

-- ---- Where the price is the cost.

-- The amount without a fee in the currency of the cash, and what the units are worth in that of the price with a fee in it: these
-- are exchanged for one another, so they have opposite signs.
abbrev pub exchanged : TradeRow → ℤ → ℕ → Read Settled
exchanged said amount price = do
  rest ← in_units role.Amount (amount +ℤ cash_fee said)
  worth ← or_fault (TooLarge role.Amount) (worth_of said.units price (price_fee said))
  _ ← must PriceSign (are_opposite rest worth)
  Ok (record { price = price; amount = rest; worth = Some (record { amount = worth; currency = said.price_currency }) })

abbrev pub settled_by : Bool → TradeRow → ℤ → ℕ → Read Settled
settled_by true said amount price = Ok (record { price = price; amount = amount; worth = None })
settled_by false said amount price = exchanged said amount price

-- how the cash settles it: by the amount, or for another currency
abbrev pub settled : TradeRow → ℤ → ℕ → Read Settled
settled said amount price = settled_by (has_one_currency said) said amount price

-- A fee in the currency of the price is posted beside it, one in another was paid beside the amount.
unfoldable pub by_price : Rules → SheetRow → TradeRow → Settled → Read Trade
by_price rules row said settled = do
  invest ← account_of rules row account.Invest said.price_currency
  cash ← account_of rules row account.Cash said.currency
  fee ← if_any (fee_to rules row) (within_currency said.price_currency said.fee)
  beside ← if_any (paid_beside rules row) (apart_from said.price_currency said.fee)
  Ok (record {
    symbol = said.symbol;
    units = said.units;
    amount = settled.amount;
    currency = said.currency;
    price = Some (record { rate = settled.price; fee = fee; worth = settled.worth });
    beside = beside;
    invest = invest;
    cash = cash;
  })

-- ---- The trade.

abbrev pub posted_by : Pricing → Rules → SheetRow → TradeRow → ℤ → Read Trade
posted_by (pricing.Printed price) rules row said amount = by_amount rules row said amount
posted_by (pricing.Cost price) rules row said amount = settled said amount price >>= by_price rules row said

unfoldable pub posted : Rules → SheetRow → TradeRow → ℤ → Read Trade
posted rules row said amount = posted_by said.pricing rules row said amount

-- what a purchase and its cancellation have in common
abbrev pub compared_of : TradeRow → ℤ → Compared
compared_of said amount =
    record { symbol = said.symbol; units = said.units; price = price_of said.pricing; amount = amount; currency = said.currency }

-- Units and cash go as the kind says, and the numbers agree.
unfoldable pub trade_of : Direction → Rules → SheetRow → Read Traded
trade_of direction rules row = do
  said ← trade_row_of rules row
  amount ← amount_for rules row said
  _ ← must Signs (goes direction said.units amount)
  _ ← comparison rules row said amount
  trade ← posted rules row said amount
  Ok (record { trade = trade; compared = compared_of said amount })

-- ---- Sales.

-- the currency of a worth, else that of the cash
abbrev pub worth_currency : Option Worth → List ℕ → List ℕ
worth_currency None cash = cash
worth_currency (Some worth) cash = worth.currency

-- the currency of what a trade is accounted in: that of the price where it is the cost, else that of the cash
abbrev pub account_currency_by : Option TradePrice → List ℕ → List ℕ
account_currency_by None cash = cash
account_currency_by (Some price) cash = worth_currency price.worth cash

abbrev pub sale_of : Rules → SheetRow → Read Sale
sale_of rules row = do
  traded ← trade_of Out rules row
  gains ← account_of rules row account.Gains (account_currency_by traded.trade.price traded.trade.currency)
  Ok (record { trade = traded.trade; gains = gains })
