-- Which whole numbers are mantissas (docs/RULES.md, Numbers).
use Rattle.std.specs.Prelude.{◌≡◌, ◌≢◌, ℕ, ◌^◌, ◌*◌, ◌/◌, ◌%◌, ◌<◌, ◌≤◌, nat_eq, nat_lt, Bool, not, ◌&&◌, if◌then◌else◌, Option, None, Some, ℤ, pos, negsuc, ◌*ℤ◌, unsigned_abs}

-- One, as a mantissa at scale 8.
abbrev pub one : ℕ
one = 100000000

-- ---- The limits of the kinds of numbers (docs/RULES.md, Limits).

-- the absolute mantissas of units are below this
abbrev pub units_limit : ℕ
units_limit = 10 ^ 18

-- the mantissas of rates are below this
abbrev pub rate_limit : ℕ
rate_limit = 10 ^ 16

-- the absolute mantissas of wide numbers are at most this
abbrev pub greatest_wide : ℕ
greatest_wide = 10 ^ 38

-- ---- The kinds.

-- A mantissa of units, or of a total of units: scale 8.
abbrev pub IsUnits : ℤ → Type 0
IsUnits z = unsigned_abs z < units_limit

-- A mantissa of a rate: scale 8, not below zero.
abbrev pub IsRate : ℕ → Type 0
IsRate n = n < rate_limit

-- A mantissa of a weight: scale 16.
abbrev pub IsWide : ℤ → Type 0
IsWide z = unsigned_abs z ≤ greatest_wide

-- ---- A total for all units, as a rate for each.

-- the rate at which the units, sign aside, come to exactly the total; zero units have none
pub record IsPerUnit (units total : ℤ) (rate : ℕ) : Type 0 where
  pub some_units : units ≢ pos 0
  pub in_range : IsRate rate
  pub exact : pos (unsigned_abs units * rate) ≡ total *ℤ pos one

-- whether a total, at scale 16, is a multiple of some units that is a rate
abbrev pub divides : ℕ → ℕ → Bool
divides units total = not (nat_eq units 0) && nat_eq (total % units) 0 && nat_lt (total / units) rate_limit

-- the total divided by the units, sign aside, where that is exactly a rate; there is none of a total below zero
unfoldable pub per_unit : ℤ → ℤ → Option ℕ
per_unit units (pos total) = if divides (unsigned_abs units) (total * one) then Some (total * one / unsigned_abs units) else None
per_unit units (negsuc n) = None
