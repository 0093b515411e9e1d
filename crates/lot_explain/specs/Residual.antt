-- What the text of a transaction says that its postings leave in a currency (docs/RULES.md, Balance and fill).
use Rattle.std.specs.Prelude.{ℕ, if◌then◌else◌, List, [], ◌∷◌, Option, None, Some, ℤ, pos, ◌+ℤ◌, ◌*ℤ◌, nat_le, unsigned_abs}
use Rattle.std.specs.Option.{option_and_then, option_map}
use Rattle.lot_num.specs.Amount.{greatest_wide}
use Rattle.lot_base.specs.Text.{same_text}
use Rattle.lot_cost.specs.declared.cost.Cost.{Cost}
use Rattle.lot_cost.specs.declared.cost.Cost.TheVariants.{Each, Whole}
use Rattle.lot_command.specs.declared.transaction.Posting.{Posting}
use Rattle.lot_command.specs.declared.transaction.Amount.{Amount}
use Rattle.lot_book.specs.Balance.{weight_at_price, with_sign}

-- what units weigh at a cost of one, with the currency, where both are given
abbrev pub weight_at : ℤ → Option (List ℕ) → Option ℕ → Option (List ℕ × ℤ)
weight_at units (Some currency) (Some number) = Some (currency, units *ℤ pos number)
weight_at units (Some currency) None = None
weight_at units None number = None

-- what braces say that units weigh: whichever lots they take, these have the given cost and currency
abbrev pub weight_in_braces : ℤ → Cost → Option (List ℕ × ℤ)
weight_in_braces units (Each spec) = weight_at units spec.currency spec.number
weight_in_braces units (Whole whole) = option_map (λ (currency : List ℕ). (currency, with_sign units whole.0)) whole.1.currency

-- what an amount says that it weighs, with the currency
abbrev pub weight_by : Option Cost → Amount → Option (List ℕ × ℤ)
weight_by None amount = Some (weight_at_price amount.commodity amount.units amount.price)
weight_by (Some cost) amount = weight_in_braces amount.units cost

abbrev pub weight_said : Amount → Option (List ℕ × ℤ)
weight_said amount = weight_by amount.cost amount

-- a sum of weights, where it is in range
abbrev pub wide_of : ℤ → Option ℤ
wide_of sum = if nat_le (unsigned_abs sum) greatest_wide then Some sum else None

-- a sum of weights in a currency, and one weight more; nothing where that is out of range
abbrev pub with_weight : List ℕ → ℤ → List ℕ × ℤ → Option ℤ
with_weight currency sum weight = if same_text weight.0 currency then wide_of (sum +ℤ weight.1) else Some sum

-- the same with what a posting weighs; one without an amount weighs nothing
abbrev pub with_posting : List ℕ → ℤ → Option Amount → Option ℤ
with_posting currency sum None = Some sum
with_posting currency sum (Some amount) = option_and_then (with_weight currency sum) (weight_said amount)

-- the same with all postings, one after another; nothing where the text of one doesn't say what it weighs, or a sum is out of range
abbrev pub sum_with : List ℕ → ℤ → List Posting → Option ℤ
sum_with currency sum [] = Some sum
sum_with currency sum (posting ∷ postings) =
    option_and_then (λ (next : ℤ). sum_with currency next postings) (with_posting currency sum posting.amount)

-- what the postings leave in the currency
abbrev pub residual_said : List ℕ → List Posting → Option ℤ
residual_said currency postings = sum_with currency (pos 0) postings
