-- The months that are looked at, and at the end of which of them a day counts first (docs/FORMATS.md, Page).
use Rattle.std.specs.Prelude.{◌≡◌, ℕ, ℤ, ◌+◌, ◌*◌, ◌-◌, ◌==◌, min, int_lt, nat_le, Bool, true, false, if◌then◌else◌, Option, None, Some}
use Rattle.lot_base.specs.Day.{month_of, year_of}
use Rattle.lot_months.specs.declared.range.MonthRange.{MonthRange}

-- the months between a day's and January of the year 0
abbrev pub months_before : ℤ → ℕ
months_before day = 12 * year_of day + (month_of day - 1)

-- the most months that are looked at
abbrev pub most_months : ℕ
most_months = 600

abbrev pub months_between : ℤ → ℤ → ℕ
months_between first last = (months_before last - months_before first) + 1

-- the months from a day to another, the last ones where there are many; none where the range ends before it begins
pub record IsRange (first last : ℤ) (range : MonthRange) : Type 0 where
  pub goes_on : int_lt last first ≡ false
  pub whole : range.whole ≡ months_between first last
  pub count : range.count ≡ min range.whole most_months
  pub first_is : range.first.0 ≡ months_before last - (range.count - 1)
  pub last_is : range.last ≡ last

abbrev pub IsRangeOf : ℤ → ℤ → Option MonthRange → Type 0
IsRangeOf first last None = int_lt last first ≡ true
IsRangeOf first last (Some range) = IsRange first last range

-- that of its own month, or the first one for a day before it; a day behind the last one never counts
abbrev pub place_in : MonthRange → ℤ → Option ℕ
place_in range day = if int_lt range.last day then None else Some (months_before day - range.first.0)

-- whether a place is that of a month or of one before it, and whether it is that of the month
abbrev pub is_by : ℕ → Option ℕ → Bool
is_by at None = false
is_by at (Some place) = nat_le place at

abbrev pub is_at : ℕ → Option ℕ → Bool
is_at at None = false
is_at at (Some place) = place == at

-- whether what happens on a day counts at the end of the month at a place, and whether it counts there first
abbrev pub counts_at : MonthRange → ℕ → ℤ → Bool
counts_at range at day = is_by at (place_in range day)

abbrev pub falls_in : MonthRange → ℕ → ℤ → Bool
falls_in range at day = is_at at (place_in range day)
