-- Days and times in the form that a profile names (docs/FORMATS.md, Profiles).
use Rattle.std.specs.Prelude.{◌≡◌, ℕ, ◌+◌, ◌*◌, ◌%◌, ◌<◌, Bool, true, false, not, ◌==◌, ◌&&◌, ◌||◌, nat_lt, if◌then◌else◌, IsTrue, codes, List, [], ◌∷◌, length, map, take, drop, count_by, flat_map, Option, Some, None, unwrap_or, option_and_then, option_map, ℤ}
use Rattle.std.specs.Option.{option_or}
use Rattle.std.specs.Char.{is_ascii_alphabetic, is_ascii_digit, to_ascii_lowercase}
use Rattle.std.specs.List.{list_all}
use Rattle.std.specs.Str.Parse.{digits_value}
use Rattle.lot_base.specs.Day.{date_number}
use Rattle.lot_base.specs.Text.{same_text}
use Rattle.lot_field.specs.Field.{behind, cut, is_blank, without_leading}
use Rattle.lot_field.specs.declared.days.DayPart.{DayPart}
use Rattle.lot_field.specs.declared.days.DayPart.TheVariants as Parts
use Rattle.lot_field.specs.declared.days.Date.{Date}
use Rattle.lot_field.specs.declared.days.Half.{Half}
use Rattle.lot_field.specs.declared.days.Half.TheVariants.{Morning, Afternoon}
use Rattle.lot_field.specs.declared.days.Moment.{Moment}
use Rattle.lot_field.specs.declared.days.Width.{Width}
use Rattle.lot_field.specs.declared.days.Width.TheVariants.{OneOrTwo, Two}

-- ---- Numbers in digits.

-- the number that a text begins with in exactly so many digits, and what stands behind it
abbrev pub in_digits : ℕ → List ℕ → Option (ℕ × List ℕ)
in_digits count text =
    if (length (take count text) == count) && list_all is_ascii_digit (take count text)
    then Some (digits_value 10 (take count text), drop count text) else None

-- the same in two digits, or where there aren't two in one
abbrev pub in_one_or_two : List ℕ → Option (ℕ × List ℕ)
in_one_or_two text = option_or (in_digits 2 text) (in_digits 1 text)

-- the number of a month or a day of the month that a text begins with, and what stands behind it
abbrev pub in_width : Width → List ℕ → Option (ℕ × List ℕ)
in_width Two text = in_digits 2 text
in_width OneOrTwo text = in_one_or_two text

-- ---- Days.

-- the first three letters of the months' names
abbrev pub month_names : List (List ℕ)
month_names =
    codes "jan" ∷ codes "feb" ∷ codes "mar" ∷ codes "apr" ∷ codes "may" ∷ codes "jun"
    ∷ codes "jul" ∷ codes "aug" ∷ codes "sep" ∷ codes "oct" ∷ codes "nov" ∷ codes "dec" ∷ []

-- the month of a name, in any case, where the first of the names is that month's
abbrev pub month_among : List (List ℕ) → ℕ → List ℕ → Option ℕ
month_among [] month name = None
month_among (first ∷ names) month name =
    if same_text (map to_ascii_lowercase first) (map to_ascii_lowercase name) then Some month
    else month_among names (month + 1) name

-- the month whose name a text begins with, and what stands behind it
abbrev pub in_letters : List ℕ → Option (ℕ × List ℕ)
in_letters text = option_map (λ month. (month, drop 3 text)) (month_among month_names 1 (take 3 text))

abbrev pub with_year : Date → ℕ × List ℕ → Date × List ℕ
with_year date said = (record date { year = said.0 }, said.1)

abbrev pub with_month : Date → ℕ × List ℕ → Date × List ℕ
with_month date said = (record date { month = said.0 }, said.1)

abbrev pub with_day : Date → ℕ × List ℕ → Date × List ℕ
with_day date said = (record date { day = said.0 }, said.1)

-- a part that is a number
abbrev pub is_number : DayPart → Bool
is_number Parts.Year = true
is_number Parts.Month = true
is_number Parts.MonthName = false
is_number Parts.Day = true
is_number (Parts.Sign sign) = false

-- whether parts begin with a number
abbrev pub begin_with_number : List DayPart → Bool
begin_with_number [] = false
begin_with_number (part ∷ parts) = is_number part

-- how many digits a month or a day of the month has: two where a number stands right before it, or begins the parts behind it
abbrev pub width_between : Bool → List DayPart → Width
width_between behind_number parts = if behind_number || begin_with_number parts then Two else OneOrTwo

-- a date with what a part of that width says at the start of a text, and what stands behind it
abbrev pub read_part : Width → DayPart → Date → List ℕ → Option (Date × List ℕ)
read_part width Parts.Year date text = option_map (with_year date) (in_digits 4 text)
read_part width Parts.Month date text = option_map (with_month date) (in_width width text)
read_part width Parts.MonthName date text = option_map (with_month date) (in_letters text)
read_part width Parts.Day date text = option_map (with_day date) (in_width width text)
read_part width (Parts.Sign sign) date text = option_map (λ rest. (date, rest)) (behind (sign ∷ []) text)

-- the same of parts, one after another, which stand behind a number or don't
abbrev pub read_parts : Bool → List DayPart → Date → List ℕ → Option (Date × List ℕ)
read_parts behind_number [] date text = Some (date, text)
read_parts behind_number (part ∷ parts) date text =
    option_and_then (λ read. read_parts (is_number part) parts read.0 read.1)
    (read_part (width_between behind_number parts) part date text)

-- nothing is read yet
abbrev pub no_date : Date
no_date = record { year = 0; month = 0; day = 0 }

-- what has been read of a date is short, for the code alone
pub record IsShort (date : Date) : Type 0 where
  pub year : date.year < 10_000
  pub month : date.month < 100
  pub day : date.day < 100

-- ---- Times, as seconds since midnight.

abbrev pub seconds_of : ℕ → ℕ → ℕ → Option ℕ
seconds_of hours minutes seconds =
    if nat_lt hours 24 && nat_lt minutes 60 && nat_lt seconds 60
    then Some (hours * 3600 + minutes * 60 + seconds) else None

-- the number in two digits behind a colon
abbrev pub behind_colon : List ℕ → Option (ℕ × List ℕ)
behind_colon text = option_and_then (in_digits 2) (behind (58 ∷ []) text)

-- the seconds behind minutes, 0 where there are none, and what stands behind them
abbrev pub seconds_in : List ℕ → ℕ × List ℕ
seconds_in text = unwrap_or (behind_colon text) (0, text)

-- whether a text begins with a letter
abbrev pub begins_with_letter : List ℕ → Bool
begins_with_letter [] = false
begins_with_letter (byte ∷ rest) = is_ascii_alphabetic byte

-- whether a text begins with that word, in any case, and no letter stands behind it
abbrev pub begins_with_word : List ℕ → List ℕ → Bool
begins_with_word word text =
    same_text (map to_ascii_lowercase word) (map to_ascii_lowercase (take (length word) text))
    && not (begins_with_letter (drop (length word) text))

-- the half of the day that a text begins with
abbrev pub half_at : List ℕ → Option Half
half_at text =
    if begins_with_word (codes "am") text then Some Morning
    else (if begins_with_word (codes "pm") text then Some Afternoon else None)

-- the hours until a half of the day begins
abbrev pub hours_before : Half → ℕ
hours_before Morning = 0
hours_before Afternoon = 12

-- the hours since midnight: with a half of the day hours are 1 to 12, and 12 is the first of them
abbrev pub hours_of : Option Half → ℕ → Option ℕ
hours_of None hours = Some hours
hours_of (Some half) hours = if nat_lt 0 hours && nat_lt hours 13 then Some (hours_before half + hours % 12) else None

-- the time of hours and minutes, and of what stands behind them: perhaps seconds, and perhaps a half of the day
abbrev pub time_at : ℕ → ℕ × List ℕ → Option ℕ
time_at hours minutes =
    option_and_then (λ all. seconds_of all minutes.0 (seconds_in minutes.1).0)
    (hours_of (half_at (without_leading (seconds_in minutes.1).1)) hours)

-- the time that a text begins with; what else is behind it is read over
abbrev pub time_of : List ℕ → Option ℕ
time_of text = option_and_then (λ hours. option_and_then (time_at hours.0) (behind_colon hours.1)) (in_one_or_two text)

-- ---- A day, and perhaps a time behind it.

-- whether a time may follow a byte: a blank, a comma or a T
abbrev pub ends_day : ℕ → Bool
ends_day byte = is_blank byte || (byte == 44) || (byte == 84)

-- the time behind a day: none where nothing is there
abbrev pub time_behind : List ℕ → Option (Option ℕ)
time_behind [] = Some None
time_behind (byte ∷ rest) = if ends_day byte then option_map Some (time_of (without_leading rest)) else None

-- a day that the calendar has, and the time behind it
abbrev pub moment_at : Option ℤ → Option (Option ℕ) → Option Moment
moment_at (Some day) (Some time) = Some (record { day = day; time = time })
moment_at _ _ = None

-- the moment that a field says
abbrev pub moment_of : List DayPart → List ℕ → Option Moment
moment_of parts field =
    option_and_then (λ read. moment_at (date_number (read.0.year, read.0.month, read.0.day)) (time_behind read.1))
    (read_parts false parts no_date (cut field))

-- ---- The form of days, as a profile writes it.

-- how a part is written
abbrev pub part_text : DayPart → List ℕ
part_text Parts.Year = codes "YYYY"
part_text Parts.Month = codes "MM"
part_text Parts.MonthName = codes "Mon"
part_text Parts.Day = codes "DD"
part_text (Parts.Sign sign) = sign ∷ []

-- a sign of ASCII that is no letter and no digit
abbrev pub is_sign : ℕ → Bool
is_sign byte = nat_lt byte 128 && not (is_ascii_alphabetic byte) && not (is_ascii_digit byte)

abbrev pub is_good_part : DayPart → Bool
is_good_part (Parts.Sign sign) = is_sign sign
is_good_part _ = true

-- what a part stands for
abbrev pub is_year : DayPart → Bool
is_year Parts.Year = true
is_year _ = false

abbrev pub is_month : DayPart → Bool
is_month Parts.Month = true
is_month Parts.MonthName = true
is_month _ = false

abbrev pub is_day : DayPart → Bool
is_day Parts.Day = true
is_day _ = false

-- a text is that of the parts, one behind another
pub record AreSpelled (text : List ℕ) (parts : List DayPart) : Type 0 where
  pub spelled : text ≡ flat_map part_text parts
  pub good : IsTrue (list_all is_good_part parts)

-- the year, the month and the day stand once each among the parts
pub record HaveEachOnce (parts : List DayPart) : Type 0 where
  pub year : count_by is_year parts ≡ 1
  pub month : count_by is_month parts ≡ 1
  pub day : count_by is_day parts ≡ 1

-- these are the parts of the form of days with that text
pub record AreDayParts (text : List ℕ) (parts : List DayPart) : Type 0 where
  pub written : AreSpelled text parts
  pub once : HaveEachOnce parts
