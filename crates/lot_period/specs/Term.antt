-- How long a lot was held when it was sold: up to a year, or over a year (docs/FORMATS.md, Tables
-- for a spreadsheet). It is no rule of any tax.
use Rattle.std.specs.Prelude.{◌≡◌, ℕ, ◌+◌, ℤ, pos, int_lt, min, if◌then◌else◌, List, codes}
use Rattle.jiff_core.specs.Calendar.{days_from_civil, days_in_month}
use Rattle.lot_base.specs.Day.{IsDay, day_number, day_of, month_of, year_of}
use Rattle.lot_period.specs.declared.term.Term.{Term}
use Rattle.lot_period.specs.declared.term.Term.TheVariants.{OverAYear, UpToAYear}

-- the number of that day of that month, or of the month's last day where it is shorter
abbrev pub day_within : ℕ → ℕ → ℕ → ℤ
day_within year month day = days_from_civil (pos year) month (min day (days_in_month (pos year) month))

-- the same day of the next year: of 29 February it is 28 February
unfoldable pub same_day_next_year : ℤ → ℤ
same_day_next_year day = day_within (year_of day + 1) (month_of day) (day_of day)

-- over a year exactly where the sale is later than the same day of the year after the acquisition
abbrev pub term_of : ℤ → ℤ → Term
term_of acquired sold = if int_lt (same_day_next_year acquired) sold then OverAYear else UpToAYear

abbrev pub term_text : Term → List ℕ
term_text UpToAYear = codes "up-to-a-year"
term_text OverAYear = codes "over-a-year"

-- ---- laws

-- where the next year has the date, it is the same day of that year
abbrev pub HasSameDay : Type 0
HasSameDay =
    (year month day : ℕ) → IsDay (pos year) (pos month) (pos day) → IsDay (pos (year + 1)) (pos month) (pos day)
    → same_day_next_year (day_number (pos year) (pos month) (pos day)) ≡ day_number (pos (year + 1)) (pos month) (pos day)

-- of 29 February it is 28 February
abbrev pub LeapDayIsCutBack : Type 0
LeapDayIsCutBack =
    (year : ℕ) → IsDay (pos year) (pos 2) (pos 29)
    → same_day_next_year (day_number (pos year) (pos 2) (pos 29)) ≡ day_number (pos (year + 1)) (pos 2) (pos 28)
