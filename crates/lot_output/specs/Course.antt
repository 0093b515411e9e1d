-- How far a run came, by its replies.
use Rattle.std.specs.Prelude.{◌≡◌, ◌<◌, ◌+◌, ◌++◌, ◌∷◌, ◌^◌, ◌-◌, ◌⊎◌, ◌&&◌, IsUtf8, List, ℕ, Option, None, Some, bytes_eq, codes, if◌then◌else◌, min, nat_eq, true}
use Rattle.std.specs.Fmt.{decimal}
use Rattle.std.specs.List.{starts_with}
use Rattle.std.specs.Str.Parse.{IsNumeral, digits_value, without_leading_plus}
use Rattle.lot_output.specs.declared.course.Course.{Course}
use Rattle.lot_output.specs.declared.course.Said.{Said}
use Rattle.lot_output.specs.declared.course.Said.TheVariants.{Accepted, Fault, Refused, Repeated, Restored, Stopped}

-- what a line says whose number this is, by what stands behind it
abbrev pub said_of : ℕ → List ℕ → Option Said
said_of number rest =
    if starts_with nat_eq rest (codes "accepted\n") then Some (Accepted number)
    else if starts_with nat_eq rest (codes "repeat\n") then Some (Repeated number)
    else if starts_with nat_eq rest (codes "refused ") then Some (Refused number)
    else if starts_with nat_eq rest (codes "fault ") then Some (Stopped number)
    else None

-- what a line says by its first word, which is no number
abbrev pub said_by : List ℕ → List ℕ → Option Said
said_by word rest =
    if bytes_eq word (codes "fault") then Some Fault
    else if bytes_eq word (codes "book") && bytes_eq rest (codes "restored\n") then Some Restored else None

-- a word says so, with what stands behind it: by itself, or as the number of the command of which that says so
abbrev pub IsToldBy : List ℕ → List ℕ → Said → Type 0
IsToldBy word rest said =
    (said_by word rest ≡ Some said)
    ⊎ (IsNumeral 10 (without_leading_plus word)
    × (said_of (digits_value 10 (without_leading_plus word)) rest ≡ Some said))

-- A line that begins with a number says what stands behind it, one that begins with the word `fault` says a fault, and one that is
-- `book restored` says that. No other says anything.
pub record Says (line : List ℕ) (said : Option Said) : Type 0 where
  pub numbered : (number : ℕ) (rest : List ℕ) → number < 2 ^ 64 → IsUtf8 line → line ≡ decimal number ++ 32 ∷ rest
      → said ≡ said_of number rest
  pub fault : (rest : List ℕ) → IsUtf8 line → line ≡ codes "fault" ++ 32 ∷ rest → said ≡ Some Fault
  pub restored : IsUtf8 line → line ≡ codes "book" ++ 32 ∷ codes "restored\n" → said ≡ Some Restored
  pub other : (found : Said) → said ≡ Some found
      → (word : List ℕ) × (rest : List ℕ) × (line ≡ word ++ 32 ∷ rest) × IsToldBy word rest found

-- one more, as far as a number of 64 bits goes
abbrev pub one_more : ℕ → ℕ
one_more count = min (count + 1) (2 ^ 64 - 1)

-- a command that was accepted, or stood already, stands; one that was refused, or at which the run stopped, doesn't
abbrev pub course_after : Said → Course → Course
course_after (Accepted number) course =
    record course { accepted = one_more course.accepted; standing = Some number; last = Some number }
course_after (Repeated number) course =
    record course { repeated = one_more course.repeated; standing = Some number; last = Some number }
course_after (Refused number) course = record course { refused = one_more course.refused; last = Some number }
course_after (Stopped number) course = record course { faults = one_more course.faults; last = Some number }
course_after Fault course = record course { faults = one_more course.faults }
course_after Restored course = record course { restored = true }
