-- Which field a column means in a line, and what is asked of it (docs/FORMATS.md, Profiles).
use Rattle.std.specs.Prelude.{◌-◌, ◌==◌, ℕ, Bool, if◌then◌else◌, List, [], map, Option, Some, None, decimal, get_or}
use Rattle.std.specs.Cmp.Lexicographic.{pointwise}
use Rattle.std.specs.List.{All, Any, list_all, position, slice_get}
use Rattle.std.specs.Option.{option_and_then, option_map, option_map_or, unwrap_or}
use Rattle.lot_field.specs.Field.{cut, is_blank}
use Rattle.lot_field.specs.Tests.{Holds}
use Rattle.lot_field.specs.declared.tests.Test.{Test}
use Rattle.lot_profile.specs.declared.file.Column.{Column}
use Rattle.lot_profile.specs.declared.file.Column.TheVariants.{Number, Named}
use Rattle.lot_profile.specs.declared.file.Condition.{Condition}
use Rattle.lot_profile.specs.declared.file.FileForm.{FileForm}

-- whether a field has nothing but blanks
abbrev pub is_blank_field : List ℕ → Bool
is_blank_field field = list_all is_blank field

-- whether a name is that one
abbrev pub is_same : List ℕ → List ℕ → Bool
is_same name other = pointwise ◌==◌ other name

-- ---- Columns.

-- how a profile and its faults name a column: by its name, or by the digits of its number
abbrev pub column_name : Column → List ℕ
column_name (Number number) = decimal number
column_name (Named name) = name

-- the names of a header: its fields, without the blanks at their ends
abbrev pub names_in : List (List ℕ) → List (List ℕ)
names_in line = map cut line

-- the place of a column, counted from 0; nothing where the header hasn't its name, or there is no header
abbrev pub place_of : Option (List (List ℕ)) → Column → Option ℕ
place_of header (Number number) = if number == 0 then None else Some (number - 1)
place_of header (Named name) = position (is_same name) (unwrap_or header [])

-- the field that a column means in a line of a table with the names of that header, without the blanks at its ends; it is empty
-- where the line is shorter, or the header hasn't that name
abbrev pub field_of : Option (List (List ℕ)) → List (List ℕ) → Column → List ℕ
field_of header fields column = option_map_or (λ (place : ℕ). cut (get_or fields place [])) (place_of header column) []

-- the same field, or nothing where the line is shorter, or the header hasn't that name
abbrev pub found_in : Option (List (List ℕ)) → List (List ℕ) → Column → Option (List ℕ)
found_in header fields column = option_map cut (option_and_then (slice_get fields) (place_of header column))

-- ---- What is asked of a line.

-- one of the tests of a condition holds of its field
abbrev pub MeetsOne : FileForm → Option (List (List ℕ)) → List (List ℕ) → Condition → Type 0
MeetsOne form header fields condition =
    Any (λ (test : Test). Holds test form.nothing form.numbers (field_of header fields condition.column)) condition.tests

-- all conditions are met
abbrev pub Meets : FileForm → Option (List (List ℕ)) → List (List ℕ) → List Condition → Type 0
Meets form header fields conditions = All (MeetsOne form header fields) conditions
