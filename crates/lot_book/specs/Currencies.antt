-- Amounts in currencies: what they sum to in each, and in which order the currencies appear.
use Rattle.std.specs.Prelude.{ℕ, not, List, [], ◌∷◌, map, filter, ℤ}
use Rattle.lot_num.specs.Sum.{sum_of}
use Rattle.lot_base.specs.Text.{same_text}

-- what amounts, each beside its currency, sum to in one currency
abbrev pub sum_in : List (List ℕ × ℤ) → List ℕ → ℤ
sum_in amounts currency =
    sum_of (map (λ (a : List ℕ × ℤ). a.1) (filter (λ (a : List ℕ × ℤ). same_text currency a.0) amounts))

-- the currencies of a list, each once, in the order in which they first appear
abbrev pub first_appearances : List (List ℕ) → List (List ℕ)
first_appearances [] = []
first_appearances (currency ∷ currencies) =
    currency ∷ filter (λ other. not (same_text currency other)) (first_appearances currencies)
