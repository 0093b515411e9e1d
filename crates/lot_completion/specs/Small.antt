-- What rates leave is little, for the code that adds it up.
use Rattle.std.specs.Prelude.{ℕ, ◌≤◌, ◌*◌, List, length, ℤ, ◌-ℤ◌, unsigned_abs}
use Rattle.std.specs.List.{AllByRecursion}
use Rattle.lot_num.specs.Amount.{rate_limit, units_limit}
use Rattle.lot_book.specs.Refusals.{most_postings}

-- each amount is less than one unit weighs at the limit of units
abbrev pub AreSmall : List (List ℕ × ℤ) → Type 0
AreSmall left = AllByRecursion (λ (l : List ℕ × ℤ). unsigned_abs l.1 ≤ units_limit) left

-- and there is at most one of each posting
pub record AreFew (left : List (List ℕ × ℤ)) : Type 0 where
  pub count : length left ≤ most_postings
  pub small : AreSmall left

-- a residual that as many postings as there may be can leave
abbrev pub IsWithinAll : ℤ → Type 0
IsWithinAll residual = unsigned_abs residual ≤ most_postings * units_limit * rate_limit

-- an amount is no further from a residual than what rates leave of it
abbrev pub IsNear : ℤ → ℤ → Type 0
IsNear residual amount = unsigned_abs (amount -ℤ residual) ≤ most_postings * units_limit
