-- The lines of what two books differ in.
use Rattle.std.specs.Prelude.{◌≡◌, ℕ, Bool, true, false, ◌&&◌, nat_le, nat_lt, List, [], ◌∷◌, ◌++◌, flat_map, map, Option, Result, Ok, Err, String, ⊤, ℤ, codes, unsigned_abs}
use Rattle.std.specs.Io.KnownBytes.{Appends}
use Rattle.std.specs.String.{string_bytes}
use Rattle.std.specs.List.{list_all}
use Rattle.lot_num.specs.Amount.{greatest_wide, units_limit}
use Rattle.lot_num.specs.AmountText.{amount_text}
use Rattle.lot_report.specs.Printed.{line}
use Rattle.lot_report.specs.Written.{AppendsPrefix}
use Rattle.lot_report.specs.declared.fault.ReportFault.{ReportFault}
use Rattle.lot_report.specs.declared.fault.ReportFault.TheVariants.{Memory, Range, Write}
use Rattle.lot_compare.specs.declared.lines.Kind.{Kind}
use Rattle.lot_compare.specs.declared.lines.Kind.TheVariants.{Gained, Held}
use Rattle.lot_compare.specs.declared.subject.Subject.{Subject}
use Rattle.lot_compare.specs.declared.sums.Sides.{Sides}

-- the word that a line begins with
abbrev pub word : Kind → List ℕ
word Gained = codes "gains "
word Held = codes "held "

-- the text of a sum: gains as money, what is held as units
abbrev pub sum_text : Kind → ℤ → List ℕ
sum_text Gained sum = amount_text 2 16 sum
sum_text Held sum = amount_text 0 8 sum

-- whether a sum is in the range of what can be printed: that of weights, or that of units
abbrev pub is_printable : Kind → ℤ → Bool
is_printable Gained sum = nat_le (unsigned_abs sum) greatest_wide
is_printable Held sum = nat_lt (unsigned_abs sum) units_limit

-- the text of a sum is given, where it can be printed; else that is the fault, or out of memory
abbrev pub IsSumText : {A : Type 0} → Kind → ℤ → Result (String A) ReportFault → Type 0
IsSumText kind sum (Ok text) = (is_printable kind sum ≡ true) × (string_bytes text ≡ sum_text kind sum)
IsSumText kind sum (Err Range) = is_printable kind sum ≡ false
IsSumText kind sum (Err Memory) = ⊤
IsSumText kind sum (Err Write) = ⊥

-- a difference: of what, and the sums of both books
abbrev pub Difference : Type 0
Difference = Kind × (Subject × Sides)

abbrev pub fits : Difference → Bool
fits (kind, (subject, sides)) = is_printable kind sides.new && is_printable kind sides.old

-- a line with the texts of both sums
abbrev pub line_with : Kind → Subject → List ℕ → List ℕ → List ℕ
line_with kind subject new old =
    line (word kind ++ subject.what ++ codes " " ++ subject.commodity ++ codes " " ++ new ++ codes " was " ++ old)

-- its line, as `gains 2024 USD 12.50 was 0.00`
abbrev pub difference_line : Difference → List ℕ
difference_line (kind, (subject, sides)) = line_with kind subject (sum_text kind sides.new) (sum_text kind sides.old)

abbrev pub of_kind : Kind → List (Subject × Sides) → List Difference
of_kind kind found = map (λ (sum : Subject × Sides). (kind, sum)) found

-- A line is written for each difference. Where a sum is out of range, or out of memory, the lines before that one are, and
-- nothing else; where the writer fails, a prefix of all lines, but not all of it.
abbrev pub WritesLines : List Difference → Option (List ℕ) → Option (List ℕ) → Result (Unit {0}) ReportFault → Type 0
WritesLines found old new (Ok done) = (list_all fits found ≡ true) × Appends old new (flat_map difference_line found)
WritesLines found old new (Err Range) =
    (before : List Difference) × (next : Difference) × (after : List Difference) × (found ≡ before ++ next ∷ after)
    × (fits next ≡ false) × Appends old new (flat_map difference_line before)
WritesLines found old new (Err Memory) =
    (before : List Difference) × (next : Difference) × (after : List Difference) × (found ≡ before ++ next ∷ after)
    × Appends old new (flat_map difference_line before)
WritesLines found old new (Err Write) = AppendsPrefix old new (flat_map difference_line found)

-- the same of one difference
abbrev pub WritesOne : Difference → Option (List ℕ) → Option (List ℕ) → Result (Unit {0}) ReportFault → Type 0
WritesOne found old new (Ok done) = (fits found ≡ true) × Appends old new (difference_line found)
WritesOne found old new (Err Range) = (fits found ≡ false) × Appends old new []
WritesOne found old new (Err Memory) = Appends old new []
WritesOne found old new (Err Write) = AppendsPrefix old new (difference_line found)
