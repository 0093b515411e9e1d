-- Why two books aren't compared to the end.
use Rattle.std.specs.Prelude.{◌≡◌, ℕ, Bool, true, false, IsTrue, List, Result, Ok, Err, ⊤}
use Rattle.lot_book_report.specs.Fault.{fault_name as show_fault_name, is_of_writer as is_write, report_fault_name}
use Rattle.lot_book_report.specs.declared.fault.ShowFault.{ShowFault}
use Rattle.lot_io.specs.Writes.{HasFailed, NoneFailed, WritesMade}
use Rattle.lot_report.specs.declared.fault.ReportFault.TheVariants as report
use Rattle.lot_compare.specs.declared.fault.CompareFault.{CompareFault}
use Rattle.lot_compare.specs.declared.fault.CompareFault.TheVariants.{Lines, New, Old}

abbrev pub fault_name : CompareFault → List ℕ
fault_name (New fault) = show_fault_name fault
fault_name (Old fault) = show_fault_name fault
fault_name (Lines fault) = report_fault_name fault

-- whether the writer failed
abbrev pub is_of_writer : CompareFault → Bool
is_of_writer (New fault) = false
is_of_writer (Old fault) = false
is_of_writer (Lines report.Range) = false
is_of_writer (Lines report.Write) = true
is_of_writer (Lines report.Memory) = false

-- reading a book never blames a writer
abbrev pub IsNotOfWriter : Result (Unit {0}) ShowFault → Type 0
IsNotOfWriter (Ok done) = ⊤
IsNotOfWriter (Err fault) = is_write fault ≡ false

-- None of the writer's calls failed where all is written and where a book stops; and it ends for the writer only where one did.
abbrev pub HasCause : Result (Unit {0}) CompareFault → WritesMade → Type 0
HasCause (Ok done) calls = NoneFailed calls.before calls.after
HasCause (Err (New fault)) calls = NoneFailed calls.before calls.after
HasCause (Err (Old fault)) calls = NoneFailed calls.before calls.after
HasCause (Err (Lines fault)) calls = IsTrue (is_of_writer (Lines fault)) → HasFailed calls.after
