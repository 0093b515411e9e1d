-- What comparing two books comes to: the lines that are written, and what is left of the books.
use Rattle.std.specs.Prelude.{◌≡◌, ℕ, List, [], Option, Result, Ok, Err}
use Rattle.std.specs.Io.KnownBytes.{Appends}
use Rattle.sqlite.specs.Held.{state}
use Rattle.sqlite.specs.State.{HasCleanDisk}
use Rattle.sqlite.specs.Store.{Ghosts}
use Rattle.lot_book.specs.Facts.{Entry}
use Rattle.lot_stored.specs.StandFor.{Stands}
use Rattle.lot_store.specs.declared.book.Book.{Book}
use Rattle.lot_book_report.specs.Show.{ReadsBook}
use Rattle.lot_compare.specs.Amounts.{AreAllDifferences, AreGains, AreHeld}
use Rattle.lot_compare.specs.Lines.{Difference, WritesLines}
use Rattle.lot_compare.specs.Sums.{AddsAmounts, Amount}
use Rattle.lot_compare.specs.declared.fault.CompareFault.{CompareFault}
use Rattle.lot_compare.specs.declared.fault.CompareFault.TheVariants.{Lines, New, Old}
use Rattle.lot_compare.specs.declared.subject.Subject.{Subject}
use Rattle.lot_compare.specs.declared.sums.Side.{Side}
use Rattle.lot_compare.specs.declared.sums.Sides.{Sides}

-- A line is written for each difference. Where a book stops, nothing is written.
abbrev pub ShowsDifferences : List Entry → List Entry → Option (List ℕ) → Option (List ℕ) → Result (Unit {0}) CompareFault → Type 0
ShowsDifferences new old start now (Ok done) = (found : List Difference) × AreAllDifferences new old found × WritesLines found start now (Ok done)
ShowsDifferences new old start now (Err (New fault)) = Appends start now []
ShowsDifferences new old start now (Err (Old fault)) = Appends start now []
ShowsDifferences new old start now (Err (Lines fault)) =
    (found : List Difference) × AreAllDifferences new old found × WritesLines found start now (Err fault)

-- the same of some lines, whatever the tables are
abbrev pub ShowsSomeLines : Option (List ℕ) → Option (List ℕ) → Result (Unit {0}) CompareFault → Type 0
ShowsSomeLines start now (Ok done) = (found : List Difference) × WritesLines found start now (Ok done)
ShowsSomeLines start now (Err (New fault)) = Appends start now []
ShowsSomeLines start now (Err (Old fault)) = Appends start now []
ShowsSomeLines start now (Err (Lines fault)) = (found : List Difference) × WritesLines found start now (Err fault)

-- what holds of two books whose entries the tables stand for, on disks that returned what was written
pub record HoldsOfBoth {S T : Type 0} (g : Ghosts S) (h : Ghosts T) (new_before new_after : Book S g) (old_before old_after : Book T h)
    (Fact : List Entry → List Entry → Type 0) : Type 0 where
  pub holds : HasCleanDisk (state g new_after.conn) → HasCleanDisk (state h old_after.conn)
      → (new old : List Entry) → Stands (state g new_before.conn) new → Stands (state h old_before.conn) old → Fact new old

-- ---- what is left of them

-- the new book is read, whatever stops the comparison
abbrev pub ReadsNew : {S : Type 0} → (g : Ghosts S) → Book S g → Book S g → Result (Unit {0}) CompareFault → Type 0
ReadsNew g before after (Ok done) = ReadsBook {A = Unit {0}} g before after (Ok tt)
ReadsNew g before after (Err (New fault)) = ReadsBook {A = Unit {0}} g before after (Err fault)
ReadsNew g before after (Err (Old fault)) = ReadsBook {A = Unit {0}} g before after (Ok tt)
ReadsNew g before after (Err (Lines fault)) = ReadsBook {A = Unit {0}} g before after (Ok tt)

-- the old book is read, unless the new one stops the comparison
abbrev pub ReadsOld : {S : Type 0} → (g : Ghosts S) → Book S g → Book S g → Result (Unit {0}) CompareFault → Type 0
ReadsOld g before after (Ok done) = ReadsBook {A = Unit {0}} g before after (Ok tt)
ReadsOld g before after (Err (New fault)) = after ≡ before
ReadsOld g before after (Err (Old fault)) = ReadsBook {A = Unit {0}} g before after (Err fault)
ReadsOld g before after (Err (Lines fault)) = ReadsBook {A = Unit {0}} g before after (Ok tt)

-- ---- one book added

abbrev pub AddsGains : Side → List Entry → List (Subject × Sides) → List (Subject × Sides) → Type 0
AddsGains side entries before after = (amounts : List Amount) × AreGains entries amounts × AddsAmounts side amounts before after

abbrev pub AddsHeld : Side → List Entry → List (Subject × Sides) → List (Subject × Sides) → Type 0
AddsHeld side entries before after = (amounts : List Amount) × AreHeld entries amounts × AddsAmounts side amounts before after
