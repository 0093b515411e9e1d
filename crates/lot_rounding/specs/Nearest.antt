-- The nearest whole number to a quotient, and the amounts that are rounded by it.
use Rattle.std.specs.Prelude.{◌≡◌, ◌≢◌, ℕ, ◌^◌, ◌*◌, ◌-◌, ◌%◌, ◌≤◌, ℤ, pos, ◌-ℤ◌, ◌*ℤ◌, unsigned_abs}
use Rattle.lot_num.specs.Amount.{IsRate, one}

-- A whole number is the nearest to the quotient of two numbers. Of two that are equally near, it is the even one.
pub record IsNearest (dividend : ℤ) (divisor : ℕ) (quotient : ℤ) : Type 0 where
  pub near : 2 * unsigned_abs (dividend -ℤ quotient *ℤ pos divisor) ≤ divisor
  pub even : 2 * unsigned_abs (dividend -ℤ quotient *ℤ pos divisor) ≡ divisor → unsigned_abs quotient % 2 ≡ 0

-- ---- So many decimals.

-- the most decimals that units have
abbrev pub most_decimals : ℕ
most_decimals = 8

-- at scale 16, the step from one amount with so many decimals to the next
abbrev pub step : ℕ → ℕ
step decimals = 10 ^ (16 - decimals)

-- an amount, at scale 16, is the nearest one with so many decimals
pub record IsRounded (decimals : ℕ) (amount rounded : ℤ) : Type 0 where
  pub steps : ℤ
  pub is_steps : rounded ≡ steps *ℤ pos (step decimals)
  pub nearest : IsNearest amount (step decimals) steps

-- ---- A rate for each unit.

-- a rate is the nearest to a total divided by units, sign aside; zero units have none
pub record IsNearestRate (units total : ℤ) (rate : ℕ) : Type 0 where
  pub some_units : units ≢ pos 0
  pub in_range : IsRate rate
  pub nearest : IsNearest (total *ℤ pos one) (unsigned_abs units) (pos rate)
