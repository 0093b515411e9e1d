-- Crumbs: what postings leave in a currency so that the fill has few decimals, and the postings of an account that make up for
-- one.
use Rattle.std.specs.Prelude.{◌≡◌, ℕ, ◌%◌, Bool, nat_eq, if◌then◌else◌, List, [], ◌∷◌, ◌++◌, map, flat_map, Option, None, Some, ℤ, pos, ◌-ℤ◌, ◌*ℤ◌, neg_ℤ, int_div, int_lt, unsigned_abs}
use Rattle.std.specs.Option.{option_map}
use Rattle.std.specs.Ordering.{int_eq}
use Rattle.lot_num.specs.Amount.{one}
use Rattle.lot_command.specs.declared.price.Price.{Price}
use Rattle.lot_command.specs.declared.price.Price.TheVariants.{Each}
use Rattle.lot_command.specs.declared.transaction.Posting.{Posting}
use Rattle.std.specs.List.{AllByRecursion}
use Rattle.lot_num.specs.Sum.{sum_of}
use Rattle.lot_command.specs.declared.transaction.Amount.{Amount}
use Rattle.lot_book.specs.Balance.{weight_at_price}
use Rattle.lot_rounding.specs.Nearest.{IsRounded, step}

-- ---- How large a crumb is.

-- The crumb of a currency. Where a posting is elided, it balances the fill, which is the opposite of the stated residual
-- rounded to so many decimals. Else it is the opposite of the residual.
abbrev pub IsCrumb : Option ℕ → ℤ → ℤ → ℤ → Type 0
IsCrumb None stated residual crumb = crumb ≡ neg_ℤ residual
IsCrumb (Some decimals) stated residual crumb =
    (rounded : ℤ) × IsRounded decimals stated rounded × (crumb ≡ rounded -ℤ residual)

-- What is left in a currency is taken up by a fill of so many decimals. Without an elided posting nothing is left.
abbrev pub IsTakenUp : Option ℕ → ℤ → Type 0
IsTakenUp None left = left ≡ pos 0
IsTakenUp (Some decimals) left = (steps : ℤ) × (left ≡ steps *ℤ pos (step decimals))

-- ---- The postings that make up for it.

-- the whole units of a crumb, at scale 8
abbrev pub whole_of : ℤ → ℤ
whole_of crumb = int_div crumb (pos one)

-- what is left of it behind the eighth decimal, sign aside
abbrev pub rest_of : ℤ → ℕ
rest_of crumb = unsigned_abs crumb % one

-- the least units with the sign of a crumb
abbrev pub speck_of : ℤ → ℤ
speck_of crumb = if int_lt crumb (pos 0) then neg_ℤ (pos 1) else pos 1

-- a posting of units of a currency, at a price in it, if there is one
abbrev pub posting_in : List ℕ → List ℕ → ℤ → Option Price → Posting
posting_in account currency units price = record {
  account = account;
  amount = Some (record { units = units; commodity = currency; cost = None; price = price });
}

-- the price of a rate in a currency, if there is one
abbrev pub price_in : List ℕ → Option ℕ → Option Price
price_in currency rate = option_map (λ (r : ℕ). Each (record { rate = r; currency = currency })) rate

-- whether nothing is left of a crumb: no units, or, of the least units at a rate, no rate
abbrev pub is_nothing : ℤ → Option ℕ → Bool
is_nothing units None = int_eq units (pos 0)
is_nothing units (Some rate) = nat_eq rate 0

-- a posting of units at a rate in their currency, if there is one, unless that is nothing
abbrev pub part_posting : List ℕ → List ℕ → ℤ → Option ℕ → List Posting
part_posting account currency units rate =
    if is_nothing units rate then [] else posting_in account currency units (price_in currency rate) ∷ []

-- the whole units of a crumb, and behind them the least units at the price that comes to the rest
abbrev pub crumb_postings : List ℕ → List ℕ × ℤ → List Posting
crumb_postings account crumb =
    part_posting account crumb.0 (whole_of crumb.1) None
    ++ part_posting account crumb.0 (speck_of crumb.1) (Some (rest_of crumb.1))

-- ---- What they weigh.

-- where a posting without braces weighs, and how much, if it has an amount
abbrev pub weight_at : Option Amount → List (List ℕ × ℤ)
weight_at None = []
weight_at (Some amount) = weight_at_price amount.commodity amount.units amount.price ∷ []

abbrev pub weights_at : List Posting → List (List ℕ × ℤ)
weights_at postings = flat_map (λ (p : Posting). weight_at p.amount) postings

-- Postings make up for a crumb: each weighs in its currency alone, and together they weigh as much.
pub record MakeUp (crumb : List ℕ × ℤ) (postings : List Posting) : Type 0 where
  pub currency : AllByRecursion (λ (w : List ℕ × ℤ). w.0 ≡ crumb.0) (weights_at postings)
  pub weight : sum_of (map (λ (w : List ℕ × ℤ). w.1) (weights_at postings)) ≡ crumb.1
