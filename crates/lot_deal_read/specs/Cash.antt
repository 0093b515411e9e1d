-- The movements of cash, the income and the exchanges that rows come to (docs/FORMATS.md, Profiles).
use Rattle.std.specs.Prelude.{ℕ, Bool, true, false, if◌then◌else◌, not, ◌&&◌, ◌||◌, int_lt, List, Option, Some, None, Ok, ℤ, pos, ◌+ℤ◌}
use Rattle.std.specs.Option.{option_map_or}
use Rattle.std.specs.Ordering.{int_eq}
use Rattle.lot_base.specs.Text.{same_text}
use Rattle.lot_deal.specs.declared.cash.Booked.{Booked}
use Rattle.lot_deal.specs.declared.cash.Exchange.{Exchange}
use Rattle.lot_deal.specs.declared.cash.Income.{Income}
use Rattle.lot_deal.specs.declared.cash.Movement.{Movement}
use Rattle.lot_deal.specs.declared.cash.Tax.{Tax}
use Rattle.lot_deal.specs.declared.cash.TaxApart.{TaxApart}
use Rattle.lot_profile.specs.declared.account.AccountRole.{AccountRole}
use Rattle.lot_profile.specs.declared.account.AccountRole.TheVariants as account
use Rattle.lot_profile.specs.declared.role.Role.TheVariants as role
use Rattle.lot_roles.specs.Accounts.{account_of}
use Rattle.lot_roles.specs.Numbers.{in_units}
use Rattle.lot_roles.specs.Reading.{Read, ◌>>=◌, if_any}
use Rattle.lot_roles.specs.declared.fault.RowFault.TheVariants.{BookedAtOdds, BookedSign, SameCurrency, Signs, TaxSign}
use Rattle.lot_roles.specs.declared.rules.Rules.{Rules}
use Rattle.lot_sheet.specs.Sheet.{SheetRow}
use Rattle.lot_deal_read.specs.Money.{apart_from, fee_of, second_of, so_much, tax_of, within_currency}
use Rattle.lot_deal_read.specs.Needed.{amount_in, currency_in, must}
use Rattle.lot_deal_read.specs.Trade.{fee_to, paid_beside}
use Rattle.lot_deal_read.specs.declared.exchanges.ExchangeRow.{ExchangeRow}
use Rattle.lot_deal_read.specs.declared.incomes.IncomeRow.{IncomeRow}
use Rattle.lot_deal_read.specs.declared.money.Money.{Money}
use Rattle.lot_deal_read.specs.declared.movements.Sign.{Sign}
use Rattle.lot_deal_read.specs.declared.movements.Sign.TheVariants.{Above, Any, Below}

-- ---- Signs.

-- one amount is above zero and the other below
abbrev pub have_other_signs : ℤ → ℤ → Bool
have_other_signs a b = int_lt (pos 0) a && int_lt b (pos 0) || int_lt a (pos 0) && int_lt (pos 0) b

-- both amounts are above zero, or below it, or zero
abbrev pub have_one_sign : ℤ → ℤ → Bool
have_one_sign a b = int_lt (pos 0) a && int_lt (pos 0) b || int_lt a (pos 0) && int_lt b (pos 0) || int_eq a (pos 0) && int_eq b (pos 0)

-- an amount has the sign of its kind
abbrev pub is_sign : Sign → ℤ → Bool
is_sign Any amount = true
is_sign Above amount = int_lt (pos 0) amount
is_sign Below amount = int_lt amount (pos 0)

-- ---- Movements.

-- so much between the cash and an account of the other side
unfoldable pub moved : Rules → SheetRow → AccountRole → ℤ → List ℕ → Read Movement
moved rules row other amount currency = do
  cash ← account_of rules row account.Cash currency
  account ← account_of rules row other currency
  Ok (record { amount = amount; currency = currency; cash = cash; account = account })

unfoldable pub movement_of : Sign → AccountRole → Rules → SheetRow → Read Movement
movement_of sign other rules row = do
  amount ← amount_in rules row role.Amount
  currency ← currency_in rules row role.Currency
  _ ← must Signs (is_sign sign amount)
  moved rules row other amount currency

-- ---- Income: what a row says of it.

unfoldable pub income_row_of : Rules → SheetRow → Read IncomeRow
income_row_of rules row = do
  amount ← amount_in rules row role.Amount
  currency ← currency_in rules row role.Currency
  tax ← tax_of rules row currency
  booked ← second_of rules row role.Booked role.BookedCurrency
  Ok (record { amount = amount; currency = currency; tax = tax; booked = booked })

-- a tax has no other sign than the amount
abbrev pub is_taxed_alike : ℤ → Option Money → Bool
is_taxed_alike amount tax = not (have_other_signs amount (so_much tax))

-- the amount before the tax in its currency
abbrev pub gross_of : IncomeRow → Read ℤ
gross_of said = in_units role.Amount (said.amount +ℤ so_much (within_currency said.currency said.tax))

-- what the cash got: in the currency of the amount it is the amount, and in another it has the sign of the amount
abbrev pub booked_fits : Option Money → IncomeRow → Read (Unit {0})
booked_fits None said = Ok tt
booked_fits (Some booked) said =
    if same_text booked.currency said.currency then must BookedAtOdds (int_eq booked.amount said.amount)
    else must BookedSign (have_one_sign said.amount booked.amount)

-- ---- Income: how it is posted.

-- the currency that the cash got
abbrev pub got_currency : IncomeRow → List ℕ
got_currency said = option_map_or (λ (booked : Money). booked.currency) said.booked said.currency

-- the income that is taxed in a currency of its own
abbrev pub taxed_apart : Rules → SheetRow → AccountRole → List ℕ → Read TaxApart
taxed_apart rules row income currency =
    account_of rules row income currency >>= λ taxed. Ok (record { currency = currency; income = taxed })

abbrev pub taxed_unless : Bool → Rules → SheetRow → AccountRole → List ℕ → Read (Option TaxApart)
taxed_unless true rules row income currency = Ok None
taxed_unless false rules row income currency = taxed_apart rules row income currency >>= λ apart. Ok (Some apart)

unfoldable pub posted_tax : Rules → SheetRow → AccountRole → List ℕ → Money → Read Tax
posted_tax rules row income currency tax = do
  account ← account_of rules row account.Tax tax.currency
  apart ← taxed_unless (same_text tax.currency currency) rules row income tax.currency
  Ok (record { amount = tax.amount; account = account; apart = apart })

-- what the cash got in another currency
abbrev pub posted_booked : Option Money → Option Booked
posted_booked None = None
posted_booked (Some booked) = Some (record { amount = booked.amount; currency = booked.currency })

unfoldable pub posted_income : Rules → SheetRow → AccountRole → IncomeRow → Read Income
posted_income rules row income said = do
  cash ← account_of rules row account.Cash (got_currency said)
  account ← account_of rules row income said.currency
  tax ← if_any (posted_tax rules row income said.currency) said.tax
  Ok (record {
    movement = record { amount = said.amount; currency = said.currency; cash = cash; account = account };
    tax = tax;
    booked = posted_booked (apart_from said.currency said.booked);
  })

unfoldable pub income_of : AccountRole → Rules → SheetRow → Read Income
income_of income rules row = do
  said ← income_row_of rules row
  _ ← must TaxSign (is_taxed_alike said.amount said.tax)
  _ ← booked_fits said.booked said
  _ ← gross_of said
  posted_income rules row income said

-- ---- Exchanges.

unfoldable pub exchange_row_of : Rules → SheetRow → Read ExchangeRow
exchange_row_of rules row = do
  amount ← amount_in rules row role.Amount
  currency ← currency_in rules row role.Currency
  other ← second_of rules row role.Other role.OtherCurrency
  fee ← fee_of rules row currency
  Ok (record { amount = amount; currency = currency; other = other; fee = fee })

-- The two amounts have other signs and other currencies. In one of two rows the amount isn't zero.
abbrev pub are_exchanged : Option Money → ExchangeRow → Read (Unit {0})
are_exchanged None said = must Signs (not (int_eq said.amount (pos 0)))
are_exchanged (Some other) said =
    must Signs (have_other_signs said.amount other.amount) >>= λ _. must SameCurrency (not (same_text other.currency said.currency))

-- the amount with the fee in its currency
abbrev pub whole_of : ExchangeRow → Read ℤ
whole_of said = in_units role.Amount (said.amount +ℤ so_much (within_currency said.currency said.fee))

abbrev pub moved_money : Rules → SheetRow → Money → Read Movement
moved_money rules row money = moved rules row account.Transfers money.amount money.currency

-- a fee in the currency of the amount is in it, one in another was paid beside it
unfoldable pub posted_exchange : Rules → SheetRow → ExchangeRow → Read Exchange
posted_exchange rules row said = do
  movement ← moved rules row account.Transfers said.amount said.currency
  fee ← if_any (fee_to rules row) (within_currency said.currency said.fee)
  other ← if_any (moved_money rules row) said.other
  beside ← if_any (paid_beside rules row) (apart_from said.currency said.fee)
  Ok (record { movement = movement; fee = fee; other = other; beside = beside })

unfoldable pub exchange_of : Rules → SheetRow → Read Exchange
exchange_of rules row = do
  said ← exchange_row_of rules row
  _ ← are_exchanged said.other said
  _ ← whole_of said
  posted_exchange rules row said
