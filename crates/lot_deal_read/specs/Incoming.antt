-- The units that come in for no cash, and the splits and prices, that rows come to (docs/FORMATS.md, Profiles).
use Rattle.std.specs.Prelude.{ℕ, Bool, true, false, not, ◌&&◌, int_lt, List, Option, Some, None, Ok, ℤ, pos}
use Rattle.std.specs.Ordering.{int_eq}
use Rattle.lot_deal.specs.declared.deal.Quote.{Quote}
use Rattle.lot_deal.specs.declared.incoming.Incoming.{Incoming}
use Rattle.lot_profile.specs.declared.account.AccountRole.{AccountRole}
use Rattle.lot_profile.specs.declared.account.AccountRole.TheVariants as account
use Rattle.lot_profile.specs.declared.basis.Rewards.{Rewards}
use Rattle.lot_profile.specs.declared.basis.Rewards.TheVariants as rewards
use Rattle.lot_profile.specs.declared.role.Role.TheVariants as role
use Rattle.lot_roles.specs.Accounts.{account_of}
use Rattle.lot_roles.specs.Days.{day_of}
use Rattle.lot_roles.specs.Names.{commodity_of}
use Rattle.lot_roles.specs.Numbers.{amount_of}
use Rattle.lot_roles.specs.Reading.{Read, ◌>>=◌, or_fault}
use Rattle.lot_roles.specs.declared.fault.RowFault.TheVariants.{CostDayLater, Signs, TooLarge}
use Rattle.lot_roles.specs.declared.rules.Rules.{Rules}
use Rattle.lot_sheet.specs.Sheet.{SheetRow}
use Rattle.lot_deal_read.specs.Needed.{amount_in, currency_in, currency_or, must, needed, price_in, symbol_in, units_in}
use Rattle.lot_deal_read.specs.Worth.{worth_of}
use Rattle.lot_deal_read.specs.declared.incomings.IncomingRow.{IncomingRow}
use Rattle.lot_deal_read.specs.declared.money.Money.{Money}

-- ---- How units that come in are posted.

-- units come in, at a cost that isn't below zero
abbrev pub come_in : ℤ → ℤ → Bool
come_in units cost = int_lt (pos 0) units && not (int_lt cost (pos 0))

-- where the units come from, unless they cost nothing
abbrev pub from_where : Bool → Rules → SheetRow → AccountRole → List ℕ → Read (Option (List ℕ))
from_where true rules row other currency = Ok None
from_where false rules row other currency = account_of rules row other currency >>= λ account. Ok (Some account)

unfoldable pub posted_incoming : Rules → SheetRow → AccountRole → IncomingRow → Read Incoming
posted_incoming rules row other said = do
  _ ← must Signs (come_in said.units said.cost.amount)
  invest ← account_of rules row account.Invest said.cost.currency
  account ← from_where (int_eq said.cost.amount (pos 0)) rules row other said.cost.currency
  Ok (record {
    symbol = said.symbol;
    units = said.units;
    cost = said.cost.amount;
    currency = said.cost.currency;
    day = said.day;
    invest = invest;
    account = account;
  })

-- ---- Rewards: units that count as what they are worth, or as nothing.

-- what units are worth at the price of the row, in the currency of the price
abbrev pub priced : Rules → SheetRow → ℤ → List ℕ → Read Money
priced rules row units currency = do
  price ← price_in rules row
  own ← currency_or rules row role.PriceCurrency currency
  worth ← or_fault (TooLarge role.Amount) (worth_of units price (pos 0))
  Ok (record { amount = worth; currency = own })

abbrev pub worth_by : Option ℤ → Rules → SheetRow → ℤ → List ℕ → Read Money
worth_by (Some amount) rules row units currency = Ok (record { amount = amount; currency = currency })
worth_by None rules row units currency = priced rules row units currency

-- what a reward costs: nothing; or the amount of the row, else the units at their price
abbrev pub reward_cost : Rewards → Rules → SheetRow → ℤ → List ℕ → Read Money
reward_cost rewards.Zero rules row units currency = Ok (record { amount = pos 0; currency = currency })
reward_cost rewards.Value rules row units currency = amount_of rules row role.Amount >>= λ amount. worth_by amount rules row units currency

unfoldable pub reward_row_of : Rules → SheetRow → Read IncomingRow
reward_row_of rules row = do
  symbol ← symbol_in rules row
  units ← units_in rules row
  currency ← currency_in rules row role.Currency
  cost ← reward_cost rules.profile.now.basis.rewards rules row units currency
  Ok (record { symbol = symbol; units = units; cost = cost; day = None })

abbrev pub reward_of : Rules → SheetRow → Read Incoming
reward_of rules row = reward_row_of rules row >>= posted_incoming rules row account.Rewards

-- ---- Units from elsewhere, with their cost and its day, which isn't behind the day of the row.

unfoldable pub transfer_row_of : Rules → SheetRow → ℤ → Read IncomingRow
transfer_row_of rules row day = do
  symbol ← symbol_in rules row
  units ← units_in rules row
  currency ← currency_in rules row role.Currency
  cost ← amount_in rules row role.Cost
  cost_day ← day_of rules row role.CostDay >>= needed role.CostDay
  _ ← must CostDayLater (not (int_lt day cost_day))
  Ok (record { symbol = symbol; units = units; cost = record { amount = cost; currency = currency }; day = Some cost_day })

abbrev pub transfer_of : Rules → SheetRow → ℤ → Read Incoming
transfer_of rules row day = transfer_row_of rules row day >>= posted_incoming rules row account.Transfers

-- ---- Prices.

abbrev pub quote_currency : Option (List ℕ) → Rules → SheetRow → Read (List ℕ)
quote_currency (Some currency) rules row = Ok currency
quote_currency None rules row = currency_in rules row role.Currency

unfoldable pub quote_of : Rules → SheetRow → Read Quote
quote_of rules row = do
  symbol ← symbol_in rules row
  price ← price_in rules row
  own ← commodity_of rules row role.PriceCurrency
  currency ← quote_currency own rules row
  Ok (record { symbol = symbol; rate = price; currency = currency })
