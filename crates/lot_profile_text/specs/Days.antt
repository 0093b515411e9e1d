-- How a profile says how days are written.
use Rattle.std.specs.Prelude.{ℕ, Bool, ◌==◌, ◌&&◌, if◌then◌else◌, List, [], ◌∷◌, count_by, Option, None, Some, option_and_then, option_map, Err}
use Rattle.std.specs.Option.{option_or}
use Rattle.toml.specs.Data.{Data, string}
use Rattle.lot_field.specs.Days.{is_day, is_month, is_sign, is_year, part_text}
use Rattle.lot_field.specs.Field.{behind}
use Rattle.lot_field.specs.declared.days.DayForm.{DayForm}
use Rattle.lot_field.specs.declared.days.DayPart.{DayPart}
use Rattle.lot_field.specs.declared.days.DayPart.TheVariants as part
use Rattle.lot_profile_text.specs.declared.entry.Form.TheVariants as form
use Rattle.lot_profile_text.specs.declared.fault.ProfileFault.TheVariants.{Wrong}
use Rattle.lot_profile_text.specs.Reading.{Read, or_wrong}
use Rattle.lot_profile_text.specs.Spelling.{parts_of}

-- the sign that a text begins with, and what stands behind it
abbrev pub first_sign : List ℕ → Option (DayPart × List ℕ)
first_sign [] = None
first_sign (byte ∷ rest) = if is_sign byte then Some (part.Sign byte, rest) else None

-- that part, where a text begins with it, and what stands behind it
abbrev pub first_if : DayPart → List ℕ → Option (DayPart × List ℕ)
first_if part text = option_map (λ rest. (part, rest)) (behind (part_text part) text)

-- the part of a day that a text begins with: YYYY, MM, Mon, DD or a sign
abbrev pub first_day_part : List ℕ → Option (DayPart × List ℕ)
first_day_part text =
    option_or (first_if part.Year text) (option_or (first_if part.Month text)
    (option_or (first_if part.MonthName text) (option_or (first_if part.Day text) (first_sign text))))

-- whether the year, the month and the day stand once each among the parts
abbrev pub has_each_once : List DayPart → Bool
has_each_once parts = (count_by is_year parts == 1) && (count_by is_month parts == 1) && (count_by is_day parts == 1)

abbrev pub if_each_once : List DayPart → Option DayForm
if_each_once parts = if has_each_once parts then Some (record { parts = parts }) else None

-- the form of days that a text writes
unfoldable pub day_form_in : List ℕ → Option DayForm
day_form_in text = option_and_then if_each_once (parts_of first_day_part text)

abbrev pub day_of : List ℕ → Data → Read DayForm
day_of place (string text) = or_wrong form.Day place (day_form_in text)
day_of place value = Err (Wrong place form.Day)
