-- The year of a day is what its text begins with.
use Rattle.std.proofs.Common.{◌≡◌, take, refl, arith}
use Rattle.std.specs.Prelude.{ℤ}
use Rattle.std.specs.Str.{IsCharBoundary}
use Rattle.lot_base.specs.Day.{day_text}
use Rattle.lot_compare.specs.Amounts.{year_text}

pub year_ends : (n : ℤ) → IsCharBoundary (day_text n) 4
unfolding day_text
year_ends n = (omega arith, λ below high. absurd (omega arith))

pub year_begins : (n : ℤ) → take 4 (day_text n) ≡ year_text n
unfolding day_text
year_begins n = refl
