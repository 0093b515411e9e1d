-- What a statement says, or why a file is none (docs/FORMATS.md, Reconciling).
use Rattle.std.specs.Prelude.{◌≡◌, ◌+◌, ℕ, ℤ, List, [], ◌∷◌, ◌++◌, length, None, ⊤}
use Rattle.std.specs.BTreeMap.{BTreeMap}
use Rattle.std.specs.List.{AllZip}
use Rattle.std.specs.Map.{lookup}
use Rattle.std.specs.Ordering.{is_eq}
use Rattle.lot_base.specs.Text.{text_cmp}
use Rattle.lot_import.specs.File.{file_records}
use Rattle.lot_statement.specs.Line.{IsFaulty, IsLine, Line, columns, said_of}
use Rattle.lot_statement.specs.declared.fault.LineCause.{LineCause}
use Rattle.lot_statement.specs.declared.fault.StatementFault.{StatementFault}
use Rattle.lot_statement.specs.declared.fault.StatementFault.TheVariants.{BadHeader, BadRow, Memory}

-- ---- records

-- these are the records of the file behind its header
abbrev pub HasRecords : List ℕ → List (List (List ℕ)) → Type 0
HasRecords bytes written = file_records bytes ≡ columns ∷ written

-- each of the records says the line at its place
abbrev pub SayLines : List (List (List ℕ)) → List Line → Type 0
SayLines written lines = AllZip IsLine written lines

-- no commodity of lines is one of those above, or comes twice
abbrev pub AreApart : List Line → List Line → Type 0
AreApart above [] = ⊤
AreApart above (line ∷ lines) = (said_of above line.0 ≡ None) × AreApart (above ++ line ∷ []) lines

-- ---- a statement

-- the units of each commodity are those that the lines say of it, and there are as many
pub record HasSaid (lines : List Line) (said : BTreeMap (List ℕ) ℤ) : Type 0 where
  pub each : (commodity : List ℕ) → lookup (λ other. is_eq (text_cmp commodity other)) said.entries ≡ said_of lines commodity
  pub count : length said.entries ≡ length lines

-- the file is a statement, and says this
pub record IsStatement (bytes : List ℕ) (lines : List Line) : Type 0 where
  pub written : List (List (List ℕ))
  pub file : HasRecords bytes written
  pub say : SayLines written lines
  pub apart : AreApart [] lines

-- ---- faults

-- the first faulty record is that one, counted from 1, by that cause
pub record HasBadRecord (written : List (List (List ℕ))) (number : ℕ) (cause : LineCause) : Type 0 where
  pub before : List (List (List ℕ))
  pub faulty : List (List ℕ)
  pub after : List (List (List ℕ))
  pub all : written ≡ before ++ faulty ∷ after
  pub lines : List Line
  pub say : SayLines before lines
  pub apart : AreApart [] lines
  pub why : IsFaulty lines faulty cause
  pub place : number ≡ length before + 1

-- the file has that fault
abbrev pub HasFault : List ℕ → StatementFault → Type 0
HasFault bytes BadHeader = (written : List (List (List ℕ))) → ¬ HasRecords bytes written
HasFault bytes (BadRow number cause) = (written : List (List (List ℕ))) × HasRecords bytes written × HasBadRecord written number cause
HasFault bytes Memory = ⊤
