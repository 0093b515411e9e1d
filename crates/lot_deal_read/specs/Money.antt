-- An amount of a currency that a row says: a fee, a tax, or what the cash got (docs/FORMATS.md, Profiles).
use Rattle.std.specs.Prelude.{ℕ, if◌then◌else◌, List, Option, Some, None, Ok, ℤ, pos}
use Rattle.std.specs.Ordering.{int_eq}
use Rattle.lot_base.specs.Text.{same_text}
use Rattle.lot_profile.specs.declared.role.Role.{Role}
use Rattle.lot_profile.specs.declared.role.Role.TheVariants as role
use Rattle.lot_roles.specs.Numbers.{amount_of}
use Rattle.lot_roles.specs.Reading.{Read, ◌>>=◌, if_any}
use Rattle.lot_roles.specs.declared.rules.Rules.{Rules}
use Rattle.lot_sheet.specs.Sheet.{SheetRow}
use Rattle.lot_deal_read.specs.Needed.{currency_in, currency_or}
use Rattle.lot_deal_read.specs.declared.money.Money.{Money}

-- ---- Fees and taxes: they are in the currency of the amount, where the row says no other.

-- an amount, unless it is zero
abbrev pub unless_zero : Option ℤ → Option ℤ
unless_zero None = None
unless_zero (Some amount) = if int_eq amount (pos 0) then None else Some amount

abbrev pub in_currency_or : Rules → SheetRow → Role → List ℕ → ℤ → Read Money
in_currency_or rules row role currency amount =
    currency_or rules row role currency >>= λ own. Ok (record { amount = amount; currency = own })

-- what was paid or withheld, unless it is zero; then its currency isn't read
unfoldable pub charge_of : Rules → SheetRow → Role → Role → List ℕ → Read (Option Money)
charge_of rules row amount_role currency_role currency =
    amount_of rules row amount_role >>= λ amount. if_any (in_currency_or rules row currency_role currency) (unless_zero amount)

abbrev pub fee_of : Rules → SheetRow → List ℕ → Read (Option Money)
fee_of rules row currency = charge_of rules row role.Fee role.FeeCurrency currency

abbrev pub tax_of : Rules → SheetRow → List ℕ → Read (Option Money)
tax_of rules row currency = charge_of rules row role.Tax role.TaxCurrency currency

-- ---- Amounts that need a currency of their own.

abbrev pub in_own_currency : Rules → SheetRow → Role → ℤ → Read Money
in_own_currency rules row role amount =
    currency_in rules row role >>= λ currency. Ok (record { amount = amount; currency = currency })

-- so much in a currency of its own, where the row has it
unfoldable pub second_of : Rules → SheetRow → Role → Role → Read (Option Money)
second_of rules row amount_role currency_role =
    amount_of rules row amount_role >>= if_any (in_own_currency rules row currency_role)

-- ---- Whether it is in a currency.

-- what is in a currency
abbrev pub within_currency : List ℕ → Option Money → Option Money
within_currency currency None = None
within_currency currency (Some money) = if same_text money.currency currency then Some money else None

-- what is in another
abbrev pub apart_from : List ℕ → Option Money → Option Money
apart_from currency None = None
apart_from currency (Some money) = if same_text money.currency currency then None else Some money

-- how much it is
abbrev pub so_much : Option Money → ℤ
so_much None = pos 0
so_much (Some money) = money.amount
