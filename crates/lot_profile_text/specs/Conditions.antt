-- What is asked of the columns of a line.
use Rattle.std.specs.Prelude.{ℕ, ◌^◌, Bool, true, false, ◌&&◌, nat_le, nat_lt, if◌then◌else◌, List, [], ◌∷◌, Option, None, Some, Ok, Err}
use Rattle.std.specs.Char.{is_ascii_digit}
use Rattle.std.specs.List.{list_all}
use Rattle.std.specs.Str.Parse.{digits_value}
use Rattle.toml.specs.Data.{Data, string}
use Rattle.lot_field.specs.Tests.{test_of}
use Rattle.lot_field.specs.declared.tests.Test.{Test}
use Rattle.lot_field.specs.declared.tests.Test.TheVariants as test
use Rattle.lot_profile.specs.declared.file.Column.{Column}
use Rattle.lot_profile.specs.declared.file.Column.TheVariants.{Number, Named}
use Rattle.lot_profile.specs.declared.file.Condition.{Condition}
use Rattle.lot_profile_text.specs.declared.entry.Form.TheVariants as form
use Rattle.lot_profile_text.specs.declared.fault.ProfileFault.TheVariants.{Wrong}
use Rattle.lot_profile_text.specs.Reading.{Read, ◌>>=◌, below, list_of, or_wrong}

-- ---- Tests.

-- whether a test asks something: `begins:` and `has:` want a text behind them
abbrev pub asks_something : Test → Bool
asks_something (test.Begins []) = false
asks_something (test.Has []) = false
asks_something _ = true

abbrev pub if_asking : Test → Option Test
if_asking test = if asks_something test then Some test else None

-- the test that a text asks
unfoldable pub test_in : List ℕ → Option Test
test_in text = if_asking (test_of text)

abbrev pub test_said : List ℕ → Data → Read Test
test_said place (string text) = or_wrong form.Test place (test_in text)
test_said place value = Err (Wrong place form.Test)

-- ---- Columns that are keys.

abbrev pub counted : ℕ → Option Column
counted n = if nat_le 1 n && nat_lt n (2 ^ 64) then Some (Number n) else None

-- the column that a key means: of digits alone its number, from 1, else its name
unfoldable pub column_under : List ℕ → Option Column
column_under key = if list_all is_ascii_digit key then counted (digits_value 10 key) else Some (Named key)

-- ---- Conditions.

abbrev pub some_tests : List ℕ → Column → List Test → Read Condition
some_tests place column [] = Err (Wrong place form.Test)
some_tests place column (first ∷ more) = Ok (record { column = column; tests = first ∷ more })

abbrev pub condition_if : List ℕ → Data → Option Column → Read Condition
condition_if place value None = Err (Wrong place form.Column)
condition_if place value (Some column) = list_of test_said place value >>= some_tests place column

-- the column that a key means, and its tests, one or more
abbrev pub condition_of : List ℕ → List ℕ → Data → Read Condition
condition_of place key value = condition_if (below place key) value (column_under key)
