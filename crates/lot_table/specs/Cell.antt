-- What a column holds, and which values a book can have there (docs/FORMATS.md, Tables).
use Rattle.std.specs.Prelude.{◌≢◌, ◌<◌, ◌≤◌, ◌^◌, ℕ, ℤ, pos, List, [], Option, Some, None, ⊤}
use Rattle.lot_base.specs.Name.{IsName, is_label}
use Rattle.lot_base.specs.Day.{IsDayNumber}
use Rattle.lot_num.specs.Amount.{IsUnits}

-- ---- texts

-- the text of a label, which is empty for none
abbrev pub label_text : Option (List ℕ) → List ℕ
label_text None = []
label_text (Some label) = label

abbrev pub IsLabelOrNone : Option (List ℕ) → Type 0
IsLabelOrNone None = ⊤
IsLabelOrNone (Some label) = IsName is_label label

-- ---- numbers

abbrev pub IsDayOrNone : Option ℤ → Type 0
IsDayOrNone None = ⊤
IsDayOrNone (Some day) = IsDayNumber day

-- units that a sum keeps: a sum of zero has no row
abbrev pub IsSum : ℤ → Type 0
IsSum units = IsUnits units × (units ≢ pos 0)

-- numbers that count from zero, and from one
abbrev pub IsPlace : ℕ → Type 0
IsPlace n = n < 2 ^ 32

abbrev pub IsOrdinal : ℕ → Type 0
IsOrdinal n = (1 ≤ n) × (n < 2 ^ 32)

-- numbers of postings in a book, which count from one and fit an integer of SQL
abbrev pub IsOpeningNumber : ℕ → Type 0
IsOpeningNumber n = (1 ≤ n) × (n < 2 ^ 63)
