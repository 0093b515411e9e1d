-- The ratio of a split, in lowest terms.
use Rattle.std.specs.Prelude.{◌≡◌, ◌≢◌, ℕ, ◌≤◌, ℤ, pos, ◌+ℤ◌, ◌*ℤ◌}
use Rattle.lot_rounding.specs.declared.ratio.Change.{Change}
use Rattle.lot_rounding.specs.declared.ratio.Change.TheVariants.{InRatio, ByUnits}
use Rattle.lot_rounding.specs.declared.ratio.Ratio.{Ratio}

-- the most that a number of a ratio in lowest terms may be
abbrev pub most_in_ratio : ℕ
most_in_ratio = 100

-- Two amounts, of which the first becomes of the second: the numbers of a ratio, or the units held with and without those that
-- were added.
abbrev pub amounts_of : Change → ℤ → ℤ × ℤ
amounts_of (InRatio ratio) held = (pos ratio.new, pos ratio.old)
amounts_of (ByUnits added) held = (held +ℤ added, held)

-- both numbers are from 1 to 100
pub record IsProper (ratio : Ratio) : Type 0 where
  pub least_new : 1 ≤ ratio.new
  pub most_new : ratio.new ≤ most_in_ratio
  pub least_old : 1 ≤ ratio.old
  pub most_old : ratio.old ≤ most_in_ratio

-- two amounts are in that ratio, whose numbers are from 1 to 100; so both have one sign, and neither is zero
pub record AreInRatio (amounts : ℤ × ℤ) (ratio : Ratio) : Type 0 where
  pub some : amounts.1 ≢ pos 0
  pub proper : IsProper ratio
  pub same : amounts.0 *ℤ pos ratio.old ≡ amounts.1 *ℤ pos ratio.new

-- the same in lowest terms: no ratio in which they are has smaller numbers
pub record IsLowest (amounts : ℤ × ℤ) (ratio : Ratio) : Type 0 where
  pub are : AreInRatio amounts ratio
  pub least : (other : Ratio) → AreInRatio amounts other → ratio.old ≤ other.old
