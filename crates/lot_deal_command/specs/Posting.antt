-- Postings of one kind (docs/FORMATS.md, Profiles).
use Rattle.std.specs.Prelude.{ℕ, List, [], ◌∷◌, Option, Some, None, ℤ, pos, ◌+ℤ◌, unsigned_abs}
use Rattle.lot_cost.specs.declared.cost_spec.CostSpec.{CostSpec}
use Rattle.lot_cost.specs.declared.cost.Cost.{Cost}
use Rattle.lot_cost.specs.declared.cost.Cost.TheVariants as Costs
use Rattle.lot_command.specs.declared.price.Price.{Price}
use Rattle.lot_command.specs.declared.price.Price.TheVariants as Prices
use Rattle.lot_command.specs.declared.transaction.Posting.{Posting}
use Rattle.lot_deal.specs.declared.cash.Fee.{Fee}

-- an amount, sign aside
abbrev pub magnitude : ℤ → ℤ
magnitude amount = pos (unsigned_abs amount)

-- ---- Plain postings.

-- without braces and without a price
abbrev pub plain : List ℕ → ℤ → List ℕ → Posting
plain account units commodity =
    record { account = account; amount = Some (record { units = units; commodity = commodity; cost = None; price = None }) }

-- the elided posting to an account
abbrev pub elided : List ℕ → Posting
elided account = record { account = account; amount = None }

-- ---- Whole prices and costs.

-- the price of all units
abbrev pub whole_price : ℤ → List ℕ → Price
whole_price total currency = Prices.Whole (magnitude total, currency)

-- a posting without braces, at the price of all units
abbrev pub exchanged : List ℕ → ℤ → List ℕ → ℤ → List ℕ → Posting
exchanged account units commodity total currency =
    record { account = account; amount = Some (record { units = units; commodity = commodity; cost = None; price = Some (whole_price total currency) }) }

-- the lots of that currency and that day, where one is given, at that number, where one is given
abbrev pub lots : Option ℕ → Option (List ℕ) → Option ℤ → CostSpec
lots number currency day = record { number = number; currency = currency; day = day; label = None }

-- the cost of all units
abbrev pub whole_cost : ℤ → List ℕ → Option ℤ → Cost
whole_cost total currency day = Costs.Whole (magnitude total, lots None (Some currency) day)

-- the cost of each unit
abbrev pub unit_cost : ℕ → List ℕ → Option ℤ → Cost
unit_cost rate currency day = Costs.Each (lots (Some rate) (Some currency) day)

-- `{}`: any cost
abbrev pub any_cost : Cost
any_cost = Costs.Each (lots None None None)

-- units at a cost, and at a price where one is given
abbrev pub held : List ℕ → ℤ → List ℕ → Cost → Option Price → Posting
held account units commodity cost price =
    record { account = account; amount = Some (record { units = units; commodity = commodity; cost = Some cost; price = price }) }

-- ---- Fees.

-- an amount and the fee that is paid out of it, where there is one
abbrev pub with_fee : ℤ → Option Fee → ℤ
with_fee amount None = amount
with_fee amount (Some fee) = amount +ℤ fee.amount

-- the fee to its account, where there is one
abbrev pub fee_postings : Option Fee → List ℕ → List Posting
fee_postings None currency = []
fee_postings (Some fee) currency = plain fee.account fee.amount currency ∷ []
