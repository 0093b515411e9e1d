-- What the postings of a deal count in a currency.
use Rattle.std.specs.Prelude.{ℕ, if◌then◌else◌, List, [], ◌∷◌, Option, Some, None, ℤ, pos, ◌+ℤ◌, neg_ℤ, ◌<ℤ◌, int_lt}
use Rattle.lot_base.specs.Text.{same_text}
use Rattle.lot_command.specs.declared.price.Price.{Price}
use Rattle.lot_command.specs.declared.price.Price.TheVariants.{Each, Whole}
use Rattle.lot_command.specs.declared.transaction.Amount.{Amount}
use Rattle.lot_command.specs.declared.transaction.Posting.{Posting}
use Rattle.lot_deal.specs.declared.cash.Booked.{Booked}
use Rattle.lot_deal.specs.declared.deal.Terms.{Terms}
use Rattle.lot_deal.specs.declared.deal.Terms.TheVariants.{Deposit, Dividend, Exchange, Fee, Interest, Tax, Withdrawal}

-- a total with the sign of the units
abbrev pub with_sign : ℤ → ℤ → ℤ
with_sign units total = if int_lt units (pos 0) then neg_ℤ total else total

-- so much, where it is in the currency
abbrev pub in_currency : List ℕ → List ℕ → ℤ → ℤ
in_currency currency other amount = if same_text other currency then amount else pos 0

-- what units without braces count: themselves, or the price of all of them with their sign (docs/RULES.md, Weight)
abbrev pub counted : List ℕ → Option Price → Amount → ℤ
counted currency None amount = in_currency currency amount.commodity amount.units
counted currency (Some (Whole price)) amount = in_currency currency price.1 (with_sign amount.units price.0)
counted currency (Some (Each price)) amount = pos 0

abbrev pub counted_by : List ℕ → Option Amount → ℤ
counted_by currency None = pos 0
counted_by currency (Some amount) = counted currency amount.price amount

-- what postings count in a currency, at scale 8
abbrev pub total_in : List ℕ → List Posting → ℤ
total_in currency [] = pos 0
total_in currency (posting ∷ postings) = counted_by currency posting.amount +ℤ total_in currency postings

-- the cash got something above zero for an amount above zero, and something below zero for one below
pub record HasSign (amount booked : ℤ) : Type 0 where
  pub above : pos 0 <ℤ amount → pos 0 <ℤ booked
  pub below : amount <ℤ pos 0 → booked <ℤ pos 0

abbrev pub IsBookedWithSign : ℤ → Option Booked → Type 0
IsBookedWithSign amount None = Unit {0}
IsBookedWithSign amount (Some booked) = HasSign amount booked.amount

-- terms are those of a deal in cash, which has no units of a commodity
abbrev pub AreOfCash : Terms → Type 0
AreOfCash (Dividend income) = IsBookedWithSign income.movement.amount income.booked
AreOfCash (Interest income) = IsBookedWithSign income.movement.amount income.booked
AreOfCash (Tax movement) = Unit {0}
AreOfCash (Fee movement) = Unit {0}
AreOfCash (Deposit movement) = Unit {0}
AreOfCash (Withdrawal movement) = Unit {0}
AreOfCash (Exchange exchange) = Unit {0}
AreOfCash _ = ⊥
