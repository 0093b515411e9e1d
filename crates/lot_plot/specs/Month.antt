-- Months of the calendar, as how many lie between them and January of the year 0, and their texts.
use Rattle.std.specs.Prelude.{ℕ, ◌+◌, ◌/◌, ◌%◌, List, [], ◌∷◌, ◌++◌}

-- the last two digits of a number
abbrev pub two_digits : ℕ → List ℕ
two_digits number = (48 + (number / 10) % 10) ∷ (48 + number % 10) ∷ []

-- the last four digits of a year, zeros among them
abbrev pub year_text : ℕ → List ℕ
year_text year = two_digits ((year / 100) % 100) ++ two_digits (year % 100)

abbrev pub year_of : ℕ → ℕ
year_of month = month / 12

-- the text of a month, `2024-03`
abbrev pub month_text : ℕ → List ℕ
month_text month = year_text (year_of month) ++ 45 ∷ two_digits (month % 12 + 1)

-- the last month that can be counted
abbrev pub last_month : ℕ
last_month = 4294967295
