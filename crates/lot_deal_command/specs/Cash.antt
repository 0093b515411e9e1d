-- The postings of cash that comes in or goes out, and of units that come in for none (docs/FORMATS.md, Profiles).
use Rattle.std.specs.Prelude.{◌≡◌, ℕ, List, [], ◌∷◌, ◌++◌, Option, Some, None, ℤ, ◌+ℤ◌, neg_ℤ}
use Rattle.lot_num.specs.Amount.{IsUnits}
use Rattle.lot_command.specs.declared.transaction.Posting.{Posting}
use Rattle.lot_deal.specs.declared.cash.Booked.{Booked}
use Rattle.lot_deal.specs.declared.cash.Exchange.{Exchange}
use Rattle.lot_deal.specs.declared.cash.Income.{Income}
use Rattle.lot_deal.specs.declared.cash.Movement.{Movement}
use Rattle.lot_deal.specs.declared.cash.Tax.{Tax}
use Rattle.lot_deal.specs.declared.cash.TaxApart.{TaxApart}
use Rattle.lot_deal.specs.declared.incoming.Incoming.{Incoming}
use Rattle.lot_deal_command.specs.Posting.{exchanged, fee_postings, held, plain, whole_cost, with_fee}

-- ---- Movements: the plain postings between the cash and an account.

abbrev pub cash_posting : Movement → Posting
cash_posting movement = plain movement.cash movement.amount movement.currency

-- so much from the account of the other side
abbrev pub from_account : Movement → ℤ → Posting
from_account movement amount = plain movement.account (neg_ℤ amount) movement.currency

abbrev pub moved : Movement → List Posting
moved movement = cash_posting movement ∷ from_account movement movement.amount ∷ []

-- a fee that was paid beside an amount, to its account and out of its cash
abbrev pub paid_beside : Option Movement → List Posting
paid_beside None = []
paid_beside (Some movement) = from_account movement movement.amount ∷ cash_posting movement ∷ []

-- ---- Income.

-- what the cash got: the amount, or another currency for the amount
abbrev pub received : Movement → Option Booked → Posting
received movement None = cash_posting movement
received movement (Some booked) = exchanged movement.cash booked.amount booked.currency movement.amount movement.currency

-- an amount and the tax, unless that has a currency of its own
abbrev pub gross_by : Option TaxApart → ℤ → ℤ → ℤ
gross_by None amount tax = amount +ℤ tax
gross_by (Some apart) amount tax = amount

-- what came in before the tax in its currency
abbrev pub gross : ℤ → Option Tax → ℤ
gross amount None = amount
gross amount (Some tax) = gross_by tax.apart amount tax.amount

-- a tax, and so much of income: of a tax with a currency of its own also the income in that
abbrev pub taxed_by : Option TaxApart → Movement → ℤ → Tax → List Posting
taxed_by None movement amount tax = plain tax.account tax.amount movement.currency ∷ from_account movement amount ∷ []
taxed_by (Some apart) movement amount tax =
    from_account movement amount
    ∷ plain tax.account tax.amount apart.currency ∷ plain apart.income (neg_ℤ tax.amount) apart.currency ∷ []

-- the tax where there is one, and so much of income
abbrev pub taxed : Movement → ℤ → Option Tax → List Posting
taxed movement amount None = from_account movement amount ∷ []
taxed movement amount (Some tax) = taxed_by tax.apart movement amount tax

-- the postings of a dividend or of interest
pub record AreOfIncome (income : Income) (postings : List Posting) : Type 0 where
  pub in_range : IsUnits (gross income.movement.amount income.tax)
  pub is : postings
      ≡ received income.movement income.booked
      ∷ taxed income.movement (gross income.movement.amount income.tax) income.tax

-- ---- Exchanges.

-- the other currency, where the row has it
abbrev pub other_moved : Option Movement → List Posting
other_moved None = []
other_moved (Some movement) = moved movement

-- The postings of an exchange: each amount against the account of the other side, with the fee that was paid out of the first, and
-- the fee that was paid beside.
pub record AreOfExchange (exchange : Exchange) (postings : List Posting) : Type 0 where
  pub in_range : IsUnits (with_fee exchange.movement.amount exchange.fee)
  pub is : postings
      ≡ cash_posting exchange.movement
      ∷ (fee_postings exchange.fee exchange.movement.currency
      ++ (from_account exchange.movement (with_fee exchange.movement.amount exchange.fee)
      ∷ (other_moved exchange.other ++ paid_beside exchange.beside)))

-- ---- Units that come in for no cash.

-- the cost, from where the units come
abbrev pub cost_from : Option (List ℕ) → Incoming → List Posting
cost_from None incoming = []
cost_from (Some account) incoming = plain account (neg_ℤ incoming.cost) incoming.currency ∷ []

abbrev pub incoming_postings : Incoming → List Posting
incoming_postings incoming =
    held incoming.invest incoming.units incoming.symbol (whole_cost incoming.cost incoming.currency incoming.day) None
    ∷ cost_from incoming.account incoming
