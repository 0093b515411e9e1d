-- Rows that are added up in a table: whether all sums stay in their range, and what is written (docs/FORMATS.md, Printed texts).
use Rattle.std.specs.Prelude.{◌≡◌, ◌⊎◌, ℕ, Bool, not, IsTrue, List, [], ◌∷◌, ◌++◌, Option, Result, Ok, Err, ⊤}
use Rattle.std.specs.Io.KnownBytes.{Appends}
use Rattle.lot_report.specs.Fed.{AreLinesBefore, joined}
use Rattle.lot_report.specs.Report.{EachFits}
use Rattle.lot_report.specs.Written.{AppendsPrefix}
use Rattle.lot_report.specs.declared.fault.ReportFault.TheVariants.{Memory, Range, Write}
use Rattle.lot_report.specs.declared.fault.RowFault.TheVariants.{Report, Spent}
use Rattle.lot_book_report.specs.declared.fault.ShowFault.{ShowFault}
use Rattle.lot_book_report.specs.declared.fault.ShowFault.TheVariants.{Row as AtRow, Walk as AtWalk}
use Rattle.lot_store.specs.declared.walk.WalkFault.TheVariants.{Ended, Failed}

-- what a table is told of a row goes by what is told of it
abbrev pub AreToldAs : {Value Row Told : Type 0} → (Value → Row) → (Value → Told) → (Row → Told) → Type 0
AreToldAs shown told tell = (value : _) → told value ≡ tell (shown value)

-- a row is the first behind which some sum isn't in its range
abbrev pub HasUnfit : {Told : Type 0} → (List Told → Told → Bool) → List Told → Type 0
HasUnfit fits rows =
    (given : List _) × (row : _) × (rest : List _) × (rows ≡ given ++ row ∷ rest) × EachFits fits [] given × IsTrue (not (fits given row))

-- Rows are taken. All of them are, where all sums stay in their range; else the first that takes one out of it ends that. The
-- book may stop it, or memory.
abbrev pub Gathers : {Told Kept : Type 0} → (List Told → Told → Bool) → (List Told → Kept → Type 0) → List Told → Kept
    → Result (Unit {0}) ShowFault → Type 0
Gathers fits HasTaken rows kept (Ok done) = EachFits fits [] rows × HasTaken rows kept
Gathers fits HasTaken rows kept (Err (AtWalk (Failed fault))) = ⊤
Gathers fits HasTaken rows kept (Err (AtWalk Ended)) = ⊥
Gathers fits HasTaken rows kept (Err (AtRow (Report Range))) = HasUnfit fits rows
Gathers fits HasTaken rows kept (Err (AtRow (Report Memory))) = ⊤
Gathers fits HasTaken rows kept (Err (AtRow (Report Write))) = ⊥
Gathers fits HasTaken rows kept (Err (AtRow Spent)) = ⊥

-- The table of rows is written behind what the writer held. Nothing is, where the book stops before, or a sum leaves its range.
-- Where the writer fails, a prefix of the lines is, but not all of them. Where memory ends, nothing is, or whole lines, but not
-- all.
abbrev pub ShowsTable : {Told : Type 0} → (List Told → Told → Bool) → (List Told → List (List ℕ) → Type 0) → List Told
    → Option (List ℕ) → Option (List ℕ) → Result (Unit {0}) ShowFault → Type 0
ShowsTable fits AreLines rows start now (Ok done) =
    EachFits fits [] rows × (lines : List (List ℕ)) × AreLines rows lines × Appends start now (joined lines)
ShowsTable fits AreLines rows start now (Err (AtWalk (Failed fault))) = Appends start now []
ShowsTable fits AreLines rows start now (Err (AtWalk Ended)) = ⊥
ShowsTable fits AreLines rows start now (Err (AtRow (Report Range))) = HasUnfit fits rows × Appends start now []
ShowsTable fits AreLines rows start now (Err (AtRow (Report Write))) =
    EachFits fits [] rows × (lines : List (List ℕ)) × AreLines rows lines × AppendsPrefix start now (joined lines)
ShowsTable fits AreLines rows start now (Err (AtRow (Report Memory))) =
    Appends start now []
    ⊎ (EachFits fits [] rows × (lines : List (List ℕ)) × AreLines rows lines
    × (part : List ℕ) × AreLinesBefore lines part × Appends start now part)
ShowsTable fits AreLines rows start now (Err (AtRow Spent)) = ⊥
