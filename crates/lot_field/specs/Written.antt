-- How days are written by a form of days, for the laws alone (docs/FORMATS.md, Profiles).
use Rattle.std.specs.Prelude.{◌≡◌, ℕ, List, [], ◌∷◌, length, Some, true}
use Rattle.std.specs.Str.Parse.{digits_value}
use Rattle.lot_field.specs.Days.{month_among, month_names}
use Rattle.lot_field.specs.Numbers.{are_digits}
use Rattle.lot_field.specs.declared.days.DayPart.{DayPart}
use Rattle.lot_field.specs.declared.days.DayPart.TheVariants as Parts
use Rattle.lot_field.specs.declared.days.Date.{Date}

-- the texts of a date
pub record Written : Type 0 where
  pub year : List ℕ
  pub month : List ℕ
  pub name : List ℕ  -- the first three letters of the month's name
  pub day : List ℕ

-- a year of four digits, a month and a day of the month of two, and the name of that month
pub record AreWritten (w : Written) : Type 0 where
  pub year : are_digits w.year ≡ true
  pub month : are_digits w.month ≡ true
  pub day : are_digits w.day ≡ true
  pub four : length w.year ≡ 4
  pub two : length w.month ≡ 2
  pub two_of_day : length w.day ≡ 2
  pub three : length w.name ≡ 3
  pub named : month_among month_names 1 w.name ≡ Some (digits_value 10 w.month)

-- how a part is written
abbrev pub written_part : Written → DayPart → List ℕ
written_part w Parts.Year = w.year
written_part w Parts.Month = w.month
written_part w Parts.MonthName = w.name
written_part w Parts.Day = w.day
written_part w (Parts.Sign sign) = sign ∷ []

-- the date that these texts say
abbrev pub date_of : Written → Date
date_of w = record { year = digits_value 10 w.year; month = digits_value 10 w.month; day = digits_value 10 w.day }
