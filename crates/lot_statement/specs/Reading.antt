-- What a reader of a statement has left, for the code alone.
use Rattle.std.specs.Prelude.{◌≡◌, ◌+◌, ℕ, ℤ, List, [], ◌∷◌, ◌++◌, length, IsSome, None, Result, Ok, Err, ⊤}
use Rattle.std.specs.BTreeMap.{BTreeMap}
use Rattle.lot_statement.specs.Line.{IsFaulty, IsLine, Line, columns, said_of}
use Rattle.lot_statement.specs.Statement.{AreApart, HasBadRecord, HasSaid, SayLines}
use Rattle.lot_statement.specs.declared.fault.LineCause.TheVariants.{Length, Commodity, Units, Repeated}
use Rattle.lot_statement.specs.declared.fault.LineFault.{LineFault}
use Rattle.lot_statement.specs.declared.fault.LineFault.TheVariants as line_fault
use Rattle.lot_statement.specs.declared.fault.StatementFault.{StatementFault}
use Rattle.lot_statement.specs.declared.fault.StatementFault.TheVariants.{BadHeader, BadRow, Memory}

-- what becomes of a line below others; memory is lacked only by one whose commodity isn't kept yet
abbrev pub Keeps : List Line → Line → BTreeMap (List ℕ) ℤ → Result (Unit {0}) LineFault → Type 0
Keeps lines line new (Ok done) = (said_of lines line.0 ≡ None) × HasSaid (lines ++ line ∷ []) new
Keeps lines line new (Err (line_fault.Bad Repeated)) = IsSome (said_of lines line.0)
Keeps lines line new (Err (line_fault.Bad Length)) = ⊥
Keeps lines line new (Err (line_fault.Bad Commodity)) = ⊥
Keeps lines line new (Err (line_fault.Bad Units)) = ⊥
Keeps lines line new (Err line_fault.Memory) = said_of lines line.0 ≡ None

-- the fault of a row with that number
abbrev pub fault_at : ℕ → LineFault → StatementFault
fault_at row (line_fault.Bad cause) = BadRow row cause
fault_at row line_fault.Memory = Memory

-- what becomes of a record below others; memory is lacked only by one that says a line
abbrev pub Takes : List Line → List (List ℕ) → BTreeMap (List ℕ) ℤ → Result (Unit {0}) LineFault → Type 0
Takes lines written new (Ok done) =
    (line : Line) × IsLine written line × (said_of lines line.0 ≡ None) × HasSaid (lines ++ line ∷ []) new
Takes lines written new (Err (line_fault.Bad cause)) = IsFaulty lines written cause
Takes lines written new (Err line_fault.Memory) = (line : Line) × IsLine written line

-- the same, with the number of a faulty one
abbrev pub TakesRow : List Line → List (List ℕ) → BTreeMap (List ℕ) ℤ → Result (Unit {0}) StatementFault → Type 0
TakesRow lines written new (Ok done) =
    (line : Line) × IsLine written line × (said_of lines line.0 ≡ None) × HasSaid (lines ++ line ∷ []) new
TakesRow lines written new (Err BadHeader) = ⊥
TakesRow lines written new (Err (BadRow number cause)) = (number ≡ length lines + 1) × IsFaulty lines written cause
TakesRow lines written new (Err Memory) = (line : Line) × IsLine written line

-- the records behind the header say lines, of which no two have one commodity, and these are kept
pub record SayAll (written : List (List (List ℕ))) (said : BTreeMap (List ℕ) ℤ) : Type 0 where
  pub lines : List Line
  pub say : SayLines written lines
  pub apart : AreApart [] lines
  pub kept : HasSaid lines said

-- the fault of the records behind the header
abbrev pub HasRowFault : List (List (List ℕ)) → StatementFault → Type 0
HasRowFault written BadHeader = ⊥
HasRowFault written (BadRow number cause) = HasBadRecord written number cause
HasRowFault written Memory = ⊤

-- the fault of all records, the header first
abbrev pub HasFileFault : List (List (List ℕ)) → StatementFault → Type 0
HasFileFault all BadHeader = (written : List (List (List ℕ))) → ¬ (all ≡ columns ∷ written)
HasFileFault all (BadRow number cause) = (written : List (List (List ℕ))) × (all ≡ columns ∷ written) × HasBadRecord written number cause
HasFileFault all Memory = ⊤
