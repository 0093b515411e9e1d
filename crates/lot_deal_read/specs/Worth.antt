-- What units are worth at a price (docs/FORMATS.md, Profiles).
use Rattle.std.specs.Prelude.{ℕ, suc, nat_lt, if◌then◌else◌, Option, Some, None, ℤ, pos, negsuc, ◌+ℤ◌, ◌*ℤ◌, neg_ℤ, unsigned_abs}
use Rattle.lot_num.specs.Amount.{one, units_limit}
use Rattle.lot_roles.specs.Numbers.{half_even}

-- ---- Rounded amounts.

-- an amount at scale 16, rounded to eight decimals, at scale 8; of two equally near the even one
abbrev pub rounded_to_units : ℤ → ℤ
rounded_to_units (pos amount) = pos (half_even amount one)
rounded_to_units (negsuc amount) = neg_ℤ (pos (half_even (suc amount) one))

-- ---- Worth.

-- an amount, where it is in the range of units
abbrev pub in_units : ℤ → Option ℤ
in_units amount = if nat_lt (unsigned_abs amount) units_limit then Some amount else None

-- what units are worth at a price, with a fee in its currency, to eight decimals; there is none out of the range of units
abbrev pub worth_of : ℤ → ℕ → ℤ → Option ℤ
worth_of units price fee = in_units (rounded_to_units (units *ℤ pos price +ℤ fee *ℤ pos one))
