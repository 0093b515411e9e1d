-- Why a report of a book ends before its end: the code and the name of each fault (docs/RULES.md, All codes).
use Rattle.std.specs.Prelude.{ℕ, Bool, true, false, IsTrue, List, Result, Ok, Err, codes}
use Rattle.lot_io.specs.Writes.{HasFailed, NoneFailed, WritesMade}
use Rattle.lot_report.specs.declared.fault.ReportFault.{ReportFault}
use Rattle.lot_report.specs.declared.fault.ReportFault.TheVariants as report
use Rattle.lot_report.specs.declared.fault.RowFault.{RowFault}
use Rattle.lot_report.specs.declared.fault.RowFault.TheVariants.{Report, Spent}
use Rattle.lot_report.specs.declared.journal.JournalFault.{JournalFault}
use Rattle.lot_report.specs.declared.journal.JournalFault.TheVariants as journal
use Rattle.lot_book_report.specs.declared.fault.ShowFault.{ShowFault}
use Rattle.lot_book_report.specs.declared.fault.ShowFault.TheVariants.{Row, Walk}
use Rattle.lot_store.specs.Run.{fault_name as store_fault_name}
use Rattle.lot_store.specs.declared.walk.WalkFault.{WalkFault}
use Rattle.lot_store.specs.declared.walk.WalkFault.TheVariants.{Ended, Failed}

abbrev pub walk_fault_name : WalkFault → List ℕ
walk_fault_name (Failed fault) = store_fault_name fault
walk_fault_name Ended = codes "S8 Ended"

abbrev pub report_fault_name : ReportFault → List ℕ
report_fault_name report.Range = codes "P1 Range"
report_fault_name report.Write = codes "P2 Write"
report_fault_name report.Memory = codes "Memory"

abbrev pub row_fault_name : RowFault → List ℕ
row_fault_name (Report fault) = report_fault_name fault
row_fault_name Spent = codes "P3 Spent"

abbrev pub fault_name : ShowFault → List ℕ
fault_name (Walk fault) = walk_fault_name fault
fault_name (Row fault) = row_fault_name fault

-- whether the writer failed
abbrev pub is_of_writer : ShowFault → Bool
is_of_writer (Walk fault) = false
is_of_writer (Row (Report report.Range)) = false
is_of_writer (Row (Report report.Write)) = true
is_of_writer (Row (Report report.Memory)) = false
is_of_writer (Row Spent) = false

-- What the calls of the writer came to in a report. None failed where it is whole, and where the book stops it; and it ends for
-- the writer only where one did.
abbrev pub HasCause : Result (Unit {0}) ShowFault → WritesMade → Type 0
HasCause (Ok done) calls = NoneFailed calls.before calls.after
HasCause (Err (Walk fault)) calls = NoneFailed calls.before calls.after
HasCause (Err (Row fault)) calls = IsTrue (is_of_writer (Row fault)) → HasFailed calls.after

-- what a fault of the journal is for a report
abbrev pub of_journal : JournalFault → ShowFault
of_journal journal.Write = Row (Report report.Write)
of_journal journal.Spent = Row Spent
