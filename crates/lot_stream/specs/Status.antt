-- How a run ends (docs/RULES.md, The program).
use Rattle.std.specs.Prelude.{◌≡◌, ◌⊎◌, ℕ, Option, Result, Ok, Err}
use Rattle.std.specs.declared.io.Error.{Error}
use Rattle.lot_stream.specs.declared.fault.Fault.{Fault}
use Rattle.lot_stream.specs.declared.fault.Fault.TheVariants.{Read, TooLong, Text, Range, Write, Memory, MemoryAt}
use Rattle.lot_stream.specs.declared.input.SlurpFault.{SlurpFault}
use Rattle.lot_read.specs.declared.fault.TextFault.{TextFault}
use Rattle.lot_report.specs.declared.fault.ReportFault.{ReportFault}
use Rattle.lot_report.specs.declared.line.PrintFault.{PrintFault}
use Rattle.lot_io.specs.Writes.{HasFailed, IsFlushed, NoneFailed, WriteCalls, WritesMade}
use Rattle.lot_stream.specs.declared.status.Status.{Status}
use Rattle.lot_stream.specs.declared.status.Status.TheVariants.{Accepted, Refused, BadInput, Stopped}

-- the number with which the program ends
abbrev pub code_of : Status → ℕ
code_of Accepted = 0
code_of Refused = 1
code_of BadInput = 3
code_of Stopped = 4

-- a number with which a run without arguments ends
abbrev pub IsStatus : ℕ → Type 0
IsStatus n = (n ≡ 0) ⊎ (n ≡ 1) ⊎ (n ≡ 3) ⊎ (n ≡ 4)

-- one refused command is enough for a run to count as refused
abbrev pub status_after : Status → Status → Status
status_after Accepted next = next
status_after Refused next = Refused
status_after BadInput next = BadInput
status_after Stopped next = Stopped

-- the status after the call of `flush`, of a run that ends with that status: one that fails stops the run
abbrev pub after_flush : Status → Result (Unit {0}) Error → Status
after_flush status (Ok done) = status
after_flush status (Err error) = Stopped

-- How a run ends, by what the calls of the writer came to. Where all is written: with its status, and all is flushed; or as
-- stopped, and a call failed. Where not all is written: as stopped.
abbrev pub Ends : Result Status PrintFault → Option WriteCalls → Status → Type 0
Ends (Ok status) calls end = ((end ≡ status) × IsFlushed calls) ⊎ ((end ≡ Stopped) × HasFailed calls)
Ends (Err cut) calls end = end ≡ Stopped

-- no call of the writer failed, or one did and the run ends as stopped
abbrev pub EndsIfFailed : WritesMade → Status → Type 0
EndsIfFailed calls end = NoneFailed calls.before calls.after ⊎ ((end ≡ Stopped) × HasFailed calls.after)

-- a fault of the input is the input's; every other one stops the run
abbrev pub status_of : Fault → Status
status_of Read = BadInput
status_of TooLong = BadInput
status_of (Text line fault) = BadInput
status_of Range = Stopped
status_of Write = Stopped
status_of Memory = Stopped
status_of (MemoryAt number) = Stopped

-- what the fault of a part is for the run
abbrev pub fault_of_input : SlurpFault → Fault
fault_of_input SlurpFault.Read = Read
fault_of_input SlurpFault.TooLong = TooLong
fault_of_input SlurpFault.Memory = Memory

abbrev pub fault_of_text : TextFault → Fault
fault_of_text (TextFault.Line number fault) = Text number fault
fault_of_text (TextFault.Memory number) = Memory

abbrev pub fault_of_report : ReportFault → Fault
fault_of_report ReportFault.Range = Range
fault_of_report ReportFault.Write = Write
fault_of_report ReportFault.Memory = Memory
