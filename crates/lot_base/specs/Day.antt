-- Days of the years 1 to 9999, by the calendar of `jiff`: their numbers, and the texts that name them.
use Rattle.std.specs.Prelude.{◌≡◌, ℕ, zero, suc, ◌+◌, ◌/◌, ◌%◌, Bool, ◌&&◌, ◌||◌, ◌==◌, nat_le, if◌then◌else◌, List, [], ◌∷◌, ◌++◌, length, Option, Some, None, option_and_then, ℤ, pos, neg_ℤ, ◌≤ℤ◌, int_le, unsigned_abs}
use Rattle.std.specs.Char.{is_ascii_digit}
use Rattle.std.specs.List.{list_all, slice_split}
use Rattle.std.specs.Str.Parse.{digits_value}
use Rattle.jiff_core.specs.Calendar.{IsBetween, IsDate, days_from_civil, days_in_month}

-- ---- numbers

-- the number of 0001-01-01, in days since 1970-01-01
abbrev pub first_day : ℤ
first_day = neg_ℤ (pos 719_162)

-- the number of 9999-12-31
abbrev pub last_day : ℤ
last_day = pos 2_932_896

-- the last year of the calendar
abbrev pub last_year : ℕ
last_year = 9999

-- the number of a day
abbrev pub IsDayNumber : ℤ → Type 0
IsDayNumber n = IsBetween first_day last_day n

-- the calendar has that day of that month, and the year is 1 to 9999
abbrev pub IsDay : ℤ → ℤ → ℤ → Type 0
IsDay year month day = (pos 1 ≤ℤ year) × IsDate year month day

-- the number of that day, in days since 1970-01-01
abbrev pub day_number : ℤ → ℤ → ℤ → ℤ
day_number year month day = days_from_civil year (unsigned_abs month) (unsigned_abs day)

-- how many of the numbers from 1 to n pass the test
unfoldable pub count_to : (ℕ → Bool) → ℕ → ℕ
count_to passes zero = 0
count_to passes (suc n) = count_to passes n + (if passes (suc n) then 1 else 0)

-- the year of a day: so many years, from year 1 on, have begun by then
unfoldable pub year_of : ℤ → ℕ
year_of n = count_to (λ year. int_le (days_from_civil (pos year) 1 1) n) last_year

-- its month: so many months of that year have begun by then
unfoldable pub month_of : ℤ → ℕ
month_of n = count_to (λ month. int_le (days_from_civil (pos (year_of n)) month 1) n) 12

-- its day of the month: so many days of that month have begun by then
unfoldable pub day_of : ℤ → ℕ
day_of n = count_to (λ day. int_le (days_from_civil (pos (year_of n)) (month_of n) day) n) 31

-- ---- printed texts

-- a number below 100 in two digits, and one below 10,000 in four
abbrev pub two_digits : ℕ → List ℕ
two_digits n = (48 + n / 10) ∷ (48 + n % 10) ∷ []

abbrev pub four_digits : ℕ → List ℕ
four_digits n = two_digits (n / 100) ++ two_digits (n % 100)

-- a date as it is printed, `2020-01-05`
abbrev pub date_text : ℕ → ℕ → ℕ → List ℕ
date_text year month day = four_digits year ++ 45 ∷ [] ++ two_digits month ++ 45 ∷ [] ++ two_digits day

-- the text of the day with that number
unfoldable pub day_text : ℤ → List ℕ
day_text n = date_text (year_of n) (month_of n) (day_of n)

-- ---- texts that are read

-- the separators of a day text, `-` and `/`
abbrev pub is_separator : ℕ → Bool
is_separator b = (b == 45) || (b == 47)

-- the number that a part says in at least so many digits and at most so many
abbrev pub number_in : ℕ → ℕ → List ℕ → Option ℕ
number_in least most part =
    if nat_le least (length part) && nat_le (length part) most && list_all is_ascii_digit part then Some (digits_value 10 part) else None

-- a year, a month and a day, where each of them is there
abbrev pub date_of : Option ℕ → Option ℕ → Option ℕ → Option (ℕ × ℕ × ℕ)
date_of (Some year) (Some month) (Some day) = Some (year, month, day)
date_of _ _ _ = None

-- the date that three parts say: a year in four digits, a month and a day in one or two each
abbrev pub date_in : List (List ℕ) → Option (ℕ × ℕ × ℕ)
date_in (year ∷ month ∷ day ∷ []) = date_of (number_in 4 4 year) (number_in 1 2 month) (number_in 1 2 day)
date_in _ = None

-- the year, month and day that a text says, which the calendar need not have
unfoldable pub named_date : List ℕ → Option (ℕ × ℕ × ℕ)
named_date text = date_in (slice_split is_separator text)

-- whether the calendar of the years 1 to 9999 has the date
abbrev pub has_date : ℕ → ℕ → ℕ → Bool
has_date year month day =
    (nat_le 1 year && nat_le year last_year) && (nat_le 1 month && nat_le month 12)
    && (nat_le 1 day && nat_le day (days_in_month (pos year) month))

-- the number of a date, where the calendar has it
abbrev pub date_number : ℕ × ℕ × ℕ → Option ℤ
date_number date =
    if has_date date.0 date.1 date.2 then Some (days_from_civil (pos date.0) date.1 date.2) else None

-- the number of the day that a text names, where it names one
unfoldable pub named_day : List ℕ → Option ℤ
named_day text = option_and_then date_number (named_date text)

-- ---- laws

-- the text of a day is that of its date
abbrev pub TextIsOfTheDate : Type 0
TextIsOfTheDate =
    (year month day : ℕ) → IsDay (pos year) (pos month) (pos day)
    → day_text (day_number (pos year) (pos month) (pos day)) ≡ date_text year month day

-- the text of a day names the day
abbrev pub TextReadsBack : Type 0
TextReadsBack = (n : ℤ) → IsDayNumber n → named_day (day_text n) ≡ Some n
