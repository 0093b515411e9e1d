-- Periods of the calendar, which are years, quarters and months, and their texts.
use Rattle.std.specs.Prelude.{◌≡◌, ◌≢◌, ℕ, ◌+◌, ◌/◌, ℤ, ◌≤ℤ◌, List, [], ◌∷◌, ◌++◌}
use Rattle.std.specs.declared.cmp.Ordering.TheVariants.{Greater}
use Rattle.lot_base.specs.Day.{four_digits, month_of, two_digits, year_of}
use Rattle.lot_base.specs.Text.{text_cmp}
use Rattle.lot_period.specs.declared.period.PeriodLength.{PeriodLength}
use Rattle.lot_period.specs.declared.period.PeriodLength.TheVariants.{Month, Quarter, Year}

-- the quarter of a month, from 1 to 4: January to March are the first
abbrev pub quarter_of : ℕ → ℕ
quarter_of month = (month + 2) / 3

-- what the text of a period has behind the year: nothing, `-Q1` or `-03`
abbrev pub part_text : PeriodLength → ℕ → List ℕ
part_text Year month = []
part_text Quarter month = 45 ∷ 81 ∷ (48 + quarter_of month) ∷ []
part_text Month month = 45 ∷ two_digits month

-- the text of the period of that length in which a day lies: `2024`, `2024-Q1` or `2024-03`
abbrev pub period_text : PeriodLength → ℤ → List ℕ
period_text length day = four_digits (year_of day) ++ part_text length (month_of day)

-- ---- laws

-- the text of a later day doesn't sort before that of an earlier one
abbrev pub LaterTextIsNotBefore : Type 0
LaterTextIsNotBefore =
    (length : PeriodLength) (first later : ℤ) → first ≤ℤ later
    → text_cmp (period_text length first) (period_text length later) ≢ Greater
