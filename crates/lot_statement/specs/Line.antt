-- What a record of a statement says: a commodity, and how many units of it are held (docs/FORMATS.md, Reconciling).
use Rattle.std.specs.Prelude.{◌≡◌, ◌==◌, ◌&&◌, Bool, IsUtf8, ℕ, ℤ, List, [], ◌∷◌, length, codes, IsSome, Option, Result, Ok, Err}
use Rattle.std.specs.Map.{lookup}
use Rattle.std.specs.Ordering.{is_eq}
use Rattle.lot_base.specs.Text.{same_text, text_cmp}
use Rattle.lot_import.specs.Row.{SaysCommodity, at_column}
use Rattle.lot_num.specs.NumberText.{units_of}
use Rattle.lot_statement.specs.declared.fault.LineCause.{LineCause}
use Rattle.lot_statement.specs.declared.fault.LineCause.TheVariants.{Length, Commodity, Units, Repeated}
use Rattle.lot_statement.specs.declared.fault.LineFault.{LineFault}
use Rattle.lot_statement.specs.declared.fault.LineFault.TheVariants.{Bad, Memory}

-- the header
abbrev pub columns : List (List ℕ)
columns = codes "commodity" ∷ codes "units" ∷ []

-- whether a record is it
abbrev pub is_header : List (List ℕ) → Bool
is_header written =
    (length written == 2) && same_text (at_column written 0) (codes "commodity") && same_text (at_column written 1) (codes "units")

-- ---- a line

-- a commodity, and the units of it
abbrev pub Line : Type 0
Line = List ℕ × ℤ

-- a number of units, which is below zero where they are owed
abbrev pub SaysUnits : List ℕ → ℤ → Type 0
SaysUnits field units = IsUtf8 field × (units_of field ≡ Ok units)

-- a record has as many fields as the header
abbrev pub IsWhole : List (List ℕ) → Type 0
IsWhole written = length written ≡ length columns

-- the record says the line
pub record IsLine (written : List (List ℕ)) (line : Line) : Type 0 where
  pub whole : IsWhole written
  pub commodity : SaysCommodity (at_column written 0) line.0
  pub units : SaysUnits (at_column written 1) line.1

-- ---- lines

-- the units that lines say of a commodity, if they name it
abbrev pub said_of : List Line → List ℕ → Option ℤ
said_of lines commodity = lookup (λ other. is_eq (text_cmp commodity other)) lines

-- ---- faults

-- the first cause by which a record says no line, whatever stands above it
abbrev pub SaysNone : List (List ℕ) → LineCause → Type 0
SaysNone written Length = ¬ IsWhole written
SaysNone written Commodity = IsWhole written × ((commodity : List ℕ) → ¬ SaysCommodity (at_column written 0) commodity)
SaysNone written Units =
    IsWhole written × ((commodity : List ℕ) × SaysCommodity (at_column written 0) commodity)
    × ((units : ℤ) → ¬ SaysUnits (at_column written 1) units)
SaysNone written Repeated = ⊥

-- the record says a line whose commodity is among those above
abbrev pub IsRepeated : List Line → List (List ℕ) → Type 0
IsRepeated above written = (line : Line) × IsLine written line × IsSome (said_of above line.0)

-- the first cause by which it is faulty below these lines
abbrev pub IsFaulty : List Line → List (List ℕ) → LineCause → Type 0
IsFaulty above written Length = SaysNone written Length
IsFaulty above written Commodity = SaysNone written Commodity
IsFaulty above written Units = SaysNone written Units
IsFaulty above written Repeated = IsRepeated above written

-- what a record gives; out of memory only where it says a line
abbrev pub GivesLine : List (List ℕ) → Result Line LineFault → Type 0
GivesLine written (Ok line) = IsLine written line
GivesLine written (Err (Bad cause)) = SaysNone written cause
GivesLine written (Err Memory) = (line : Line) × IsLine written line
