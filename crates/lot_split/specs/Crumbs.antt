-- The postings of an account that make up for a crumb, as completions make them (docs/RULES.md, The rounding account).
use Rattle.std.specs.Prelude.{ℕ, ◌%◌, Bool, nat_eq, if◌then◌else◌, List, [], ◌∷◌, ◌++◌, Option, None, Some, ℤ, pos, neg_ℤ, int_div, int_lt, unsigned_abs}
use Rattle.std.specs.Option.{option_map}
use Rattle.std.specs.Ordering.{int_eq}
use Rattle.lot_num.specs.Amount.{one}
use Rattle.lot_command.specs.declared.price.Price.{Price}
use Rattle.lot_command.specs.declared.price.Price.TheVariants.{Each}
use Rattle.lot_command.specs.declared.transaction.Posting.{Posting}

-- the whole units of a crumb, at scale 8
abbrev pub whole_of : ℤ → ℤ
whole_of crumb = int_div crumb (pos one)

-- what is left of it behind the eighth decimal, sign aside
abbrev pub rest_of : ℤ → ℕ
rest_of crumb = unsigned_abs crumb % one

-- the least units with the sign of a crumb
abbrev pub speck_of : ℤ → ℤ
speck_of crumb = if int_lt crumb (pos 0) then neg_ℤ (pos 1) else pos 1

-- a posting of units of a currency, at a price in it, if there is one
abbrev pub posting_in : List ℕ → List ℕ → ℤ → Option Price → Posting
posting_in account currency units price = record {
  account = account;
  amount = Some (record { units = units; commodity = currency; cost = None; price = price });
}

-- the price of a rate in a currency, if there is one
abbrev pub price_in : List ℕ → Option ℕ → Option Price
price_in currency rate = option_map (λ (r : ℕ). Each (record { rate = r; currency = currency })) rate

-- whether nothing is left of a crumb: no units, or, of the least units at a rate, no rate
abbrev pub is_nothing : ℤ → Option ℕ → Bool
is_nothing units None = int_eq units (pos 0)
is_nothing units (Some rate) = nat_eq rate 0

-- a posting of units at a rate in their currency, if there is one, unless that is nothing
abbrev pub part_posting : List ℕ → List ℕ → ℤ → Option ℕ → List Posting
part_posting account currency units rate =
    if is_nothing units rate then [] else posting_in account currency units (price_in currency rate) ∷ []

-- The whole units of a crumb, and behind them the least units at the price that comes to the rest. So they weigh exactly as much
-- as the crumb, which has sixteen decimals; one posting of units has eight.
abbrev pub crumb_postings : List ℕ → List ℕ → ℤ → List Posting
crumb_postings account currency crumb =
    part_posting account currency (whole_of crumb) None
    ++ part_posting account currency (speck_of crumb) (Some (rest_of crumb))
