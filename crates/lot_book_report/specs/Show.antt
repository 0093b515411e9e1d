-- What writing a report of a book comes to: how much of it is written (docs/FORMATS.md, Printed texts), which fault ends it,
-- and what is left of the book.
use Rattle.std.specs.Prelude.{◌≡◌, ◌≢◌, ◌⊎◌, ◌↔◌, ℕ, Bool, List, [], ◌∷◌, ◌++◌, Option, None, Result, Ok, Err, ⊤}
use Rattle.std.specs.Io.KnownBytes.{Appends}
use Rattle.sqlite.specs.Held.{state}
use Rattle.sqlite.specs.State.{HasCleanDisk, Survives}
use Rattle.sqlite.specs.Store.{Ghosts}
use Rattle.lot_book.specs.Facts.{Entry}
use Rattle.lot_stored.specs.StandFor.{Stands}
use Rattle.lot_page.specs.Cursor.{Stays}
use Rattle.lot_report.specs.Fed.{EndsReport, GrowsByRow, IsWhole, text_of}
use Rattle.lot_report.specs.Report.{EachFits}
use Rattle.lot_report.specs.declared.fault.ReportFault.{ReportFault}
use Rattle.lot_report.specs.declared.fault.RowFault.TheVariants.{Report, Spent}
use Rattle.lot_rows.specs.Tables.{Has, Tables}
use Rattle.lot_book_report.specs.declared.fault.ShowFault.{ShowFault}
use Rattle.lot_book_report.specs.declared.fault.ShowFault.TheVariants.{Row as AtRow, Walk as AtWalk}
use Rattle.lot_store.specs.Step.{LeavesTables}
use Rattle.lot_store.specs.Walk.{condition_of}
use Rattle.lot_store.specs.declared.book.Book.{Book}
use Rattle.lot_store.specs.declared.book.Condition.{Condition}
use Rattle.lot_store.specs.declared.book.Condition.TheVariants.{NeedsReopen as Unusable}
use Rattle.lot_store.specs.declared.fault.StoreFault.TheVariants.{Damaged, Device, InDoubt, NeedsReopen}
use Rattle.lot_store.specs.declared.walk.WalkFault.TheVariants.{Ended, Failed}
use Rattle.lot_table.specs.Statement.{DiskFailed}

-- ---- reports with totals

-- the report ends at a row: those before it are written, and of it what such a fault leaves
abbrev pub EndsAtRow : {Row : Type 0} → (Row → List (List ℕ)) → (List Row → Row → Bool)
    → List Row → Option (List ℕ) → Option (List ℕ) → ReportFault → Type 0
EndsAtRow lines fits all start now fault =
    (given : List _) × (row : _) × (rest : List _) × (all ≡ given ++ row ∷ rest) × EachFits fits [] given
    × GrowsByRow lines fits (λ rows (kept : Unit {0}). Unit {0}) given row None start now (Err (Report fault))

-- all rows are written, and the report ends behind the last one
abbrev pub EndsAtEnd : {Row : Type 0} → (Row → List (List ℕ)) → (List Row → Row → Bool) → (List Row → List (List ℕ) → Type 0)
    → List Row → Option (List ℕ) → Option (List ℕ) → ReportFault → Type 0
EndsAtEnd lines fits IsEnd all start now fault = EachFits fits [] all × EndsReport lines fits IsEnd all start now (Err (Report fault))

-- the whole report of rows is written
abbrev pub WritesWhole : {Row : Type 0} → (Row → List (List ℕ)) → (List Row → Row → Bool) → (List Row → List (List ℕ) → Type 0)
    → List Row → Option (List ℕ) → Option (List ℕ) → Type 0
WritesWhole lines fits IsEnd all start now = (text : List ℕ) × IsWhole lines fits IsEnd all text × Appends start now text

-- All rows are written, with what stands behind them. Where the book stops, those before that row are, and nothing else.
-- Where the report does, it ends at a row, or behind the last one.
abbrev pub Shows : {Row : Type 0} → (Row → List (List ℕ)) → (List Row → Row → Bool) → (List Row → List (List ℕ) → Type 0)
    → List Row → Option (List ℕ) → Option (List ℕ) → Result (Unit {0}) ShowFault → Type 0
Shows lines fits IsEnd all start now (Ok done) = WritesWhole lines fits IsEnd all start now
Shows lines fits IsEnd all start now (Err (AtWalk (Failed fault))) =
    (given : List _) × (rest : List _) × (all ≡ given ++ rest) × EachFits fits [] given × Appends start now (text_of lines given)
Shows lines fits IsEnd all start now (Err (AtWalk Ended)) = ⊥
Shows lines fits IsEnd all start now (Err (AtRow (Report fault))) =
    EndsAtRow lines fits all start now fault ⊎ EndsAtEnd lines fits IsEnd all start now fault
Shows lines fits IsEnd all start now (Err (AtRow Spent)) = ⊥

-- Whatever the tables are, the report of some rows is written, or as much of it as its fault leaves. So where the book stops,
-- there are whole rows, and nothing behind them, no totals; and a report that doesn't stop has its totals.
abbrev pub ShowsSome : {Row : Type 0} → (Row → List (List ℕ)) → (List Row → Row → Bool) → (List Row → List (List ℕ) → Type 0)
    → Option (List ℕ) → Option (List ℕ) → Result (Unit {0}) ShowFault → Type 0
ShowsSome lines fits IsEnd start now result = (rows : List _) × Shows lines fits IsEnd rows start now result

-- ---- the book

-- a fault of the book, and no other, changes its condition
abbrev pub condition_after : {A : Type 0} → Condition → Result A ShowFault → Condition
condition_after before (Ok done) = before
condition_after before (Err (AtWalk fault)) = condition_of {A = Unit {0}} before (Err fault)
condition_after before (Err (AtRow fault)) = before

-- what holds where the book doesn't stop the report
abbrev pub UnlessStopped : {A : Type 0} → Result A ShowFault → Type 0 → Type 0
UnlessStopped (Ok done) P = P
UnlessStopped (Err (AtWalk fault)) P = ⊤
UnlessStopped (Err (AtRow fault)) P = P

-- what holds of the book whose entries the tables stand for, on a disk that returned what was written
pub record HoldsOfBook {S : Type 0} (g : Ghosts S) (old new : Book S g) (Fact : List Entry → Type 0) : Type 0 where
  pub holds : HasCleanDisk (state g new.conn) → (entries : List Entry) → Stands (state g old.conn) entries → Fact entries

-- what holds of the rows of its tables, whatever those stand for, on such a disk
pub record HoldsOfTables {S : Type 0} (g : Ghosts S) (old new : Book S g) (Fact : Tables → Type 0) : Type 0 where
  pub holds : HasCleanDisk (state g new.conn) → (tables : Tables) → Has (state g old.conn) tables → Fact tables

-- the fault is one of the book
abbrev pub IsOfBook : ShowFault → Type 0
IsOfBook (AtWalk fault) = ⊤
IsOfBook (AtRow fault) = ⊥

-- the fault is one of the report, or of its writer
abbrev pub IsOfReport : ShowFault → Type 0
IsOfReport (AtWalk fault) = ⊥
IsOfReport (AtRow fault) = ⊤

-- a book is read, which changes nothing: which faults end that, when, and what they leave
pub record ReadsBook {S A : Type 0} (g : Ghosts S) (old new : Book S g) (result : Result A ShowFault) : Type 0 where
  -- a book that needs reopening gives no row, and only a failure of the device makes it need that
  pub reopen : result ≡ Err (AtWalk (Failed NeedsReopen)) ↔ (old.condition ≡ Unusable)
  pub condition : new.condition ≡ condition_after old.condition result
  pub failed : HasCleanDisk (state g new.conn) → result ≡ Err (AtWalk (Failed Device)) → DiskFailed (state g old.conn) (state g new.conn)
  -- damage is found only where the tables stand for no book
  pub damaged : HasCleanDisk (state g new.conn) → result ≡ Err (AtWalk (Failed Damaged)) → (entries : List Entry) → ¬ Stands (state g old.conn) entries
  -- nothing is committed, no call follows a fault
  pub sure : result ≢ Err (AtWalk (Failed InDoubt))
  pub going : result ≢ Err (AtWalk Ended)
  pub unspent : result ≢ Err (AtRow Spent)
  -- a fault of the report or of the writer leaves the book as it was
  pub same : HasCleanDisk (state g new.conn) → UnlessStopped result (Stays (state g old.conn) (state g new.conn))
  pub left : HasCleanDisk (state g new.conn) → LeavesTables (state g old.conn) (state g new.conn)
  pub crash : Survives (state g old.conn) (state g new.conn) (λ _. ⊥)
