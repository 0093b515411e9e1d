-- How large a crumb may be.
use Rattle.std.specs.Prelude.{◌*◌, ◌≤◌, ℤ, pos, ◌≤ℤ◌, unsigned_abs}
use Rattle.lot_num.specs.Amount.{one}

-- the bound where none is given, at scale 8
abbrev pub half_a_cent : ℤ
half_a_cent = pos 500000

-- the greatest that may be given
abbrev pub greatest_bound : ℤ
greatest_bound = pos one

-- a bound is from zero to one
pub record IsBound (bound : ℤ) : Type 0 where
  pub least : pos 0 ≤ℤ bound
  pub most : bound ≤ℤ greatest_bound

-- a crumb, at scale 16, is within a bound, at scale 8
abbrev pub IsWithin : ℤ → ℤ → Type 0
IsWithin bound crumb = unsigned_abs crumb ≤ unsigned_abs bound * one
