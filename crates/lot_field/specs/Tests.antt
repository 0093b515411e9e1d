-- What is asked of a field (docs/FORMATS.md, Profiles).
use Rattle.std.specs.Prelude.{◌≡◌, ℕ, IsTrue, codes, if◌then◌else◌, List, ◌++◌, Option, Some, None, option_map, ℤ, pos, ◌<ℤ◌}
use Rattle.std.specs.List.{list_any}
use Rattle.lot_base.specs.Text.{same_text}
use Rattle.lot_field.specs.Field.{behind, cut, without_leading}
use Rattle.lot_field.specs.Numbers.{SaysNumber}
use Rattle.lot_field.specs.declared.numbers.Number.{Number}
use Rattle.lot_field.specs.declared.numbers.NumberForm.{NumberForm}
use Rattle.lot_field.specs.declared.tests.Test.{Test}
use Rattle.lot_field.specs.declared.tests.Test.TheVariants as Tests

-- ---- Fields that mean no value.

-- a field means no value where it is one of these texts
abbrev pub MeansNothing : List (List ℕ) → List ℕ → Type 0
MeansNothing nothing field = IsTrue (list_any (λ text. same_text text (cut field)) nothing)

-- ---- Whether a test holds.

-- a field says a number that passes
abbrev pub IsNumberThat : (ℤ → Type 0) → NumberForm → List ℕ → Type 0
IsNumberThat Passes form field = (number : Number) × SaysNumber form field number × Passes number.units

abbrev pub Holds : Test → List (List ℕ) → NumberForm → List ℕ → Type 0
Holds (Tests.Is text) nothing form field = cut field ≡ text
Holds (Tests.Begins text) nothing form field = (rest : List ℕ) × (cut field ≡ text ++ rest)
Holds (Tests.Has text) nothing form field = (front : List ℕ) × (rest : List ℕ) × (cut field ≡ front ++ (text ++ rest))
Holds Tests.Above nothing form field = IsNumberThat (λ units. pos 0 <ℤ units) form field
Holds Tests.Below nothing form field = IsNumberThat (λ units. units <ℤ pos 0) form field
Holds Tests.Nothing nothing form field = MeansNothing nothing field
Holds Tests.Something nothing form field = MeansNothing nothing field → ⊥

-- ---- The test that a profile's text asks.

-- the text behind a beginning, without blanks before it
abbrev pub argument : List ℕ → List ℕ → Option (List ℕ)
argument word text = option_map without_leading (behind word text)

-- `begins: X` and `has: X`; any other text is itself
abbrev pub test_with : Option (List ℕ) → Option (List ℕ) → List ℕ → Test
test_with (Some beginning) has text = Tests.Begins beginning
test_with None (Some part) text = Tests.Has part
test_with None None text = Tests.Is text

abbrev pub test_of : List ℕ → Test
test_of text =
    if same_text text (codes "> 0") then Tests.Above
    else (if same_text text (codes "< 0") then Tests.Below
    else (if same_text text (codes "nothing") then Tests.Nothing
    else (if same_text text (codes "something") then Tests.Something
    else test_with (argument (codes "begins:") text) (argument (codes "has:") text) text)))
