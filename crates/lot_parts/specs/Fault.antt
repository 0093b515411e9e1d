-- What a fault of a dump says.
use Rattle.std.specs.Prelude.{◌⊎◌, ◌≤◌, ℕ, ⊤}
use Rattle.lot_io.specs.Reads.{ReadsMade}
use Rattle.lot_stream.specs.Input.{NoneFailed, most_calls}
use Rattle.lot_dump.specs.Lines.{Made}
use Rattle.lot_dump.specs.declared.head.HeadFault.{HeadFault}
use Rattle.lot_dump.specs.declared.head.HeadFault.TheVariants as Heads
use Rattle.lot_dump.specs.declared.lines.LineFault.{LineFault}
use Rattle.lot_dump.specs.declared.lines.LineFault.TheVariants as Lines
use Rattle.lot_parts.specs.declared.fault.DumpFault.{DumpFault}
use Rattle.lot_parts.specs.declared.fault.DumpFault.TheVariants.{Memory, NewerFormat, NotADump, Read, TooLong}

-- where the fault says that the text is no dump, that holds of the line that it names
abbrev pub SaysNoDump : (ℕ → Type 0) → DumpFault → Type 0
SaysNoDump P (NotADump line) = P line
SaysNoDump P NewerFormat = ⊤
SaysNoDump P Read = ⊤
SaysNoDump P TooLong = ⊤
SaysNoDump P Memory = ⊤

abbrev pub fault_of_line : LineFault → DumpFault
fault_of_line Lines.Read = Read
fault_of_line Lines.TooLong = TooLong
fault_of_line Lines.Memory = Memory

-- the head is the first line
abbrev pub fault_of_head : HeadFault → DumpFault
fault_of_head Heads.NotADump = NotADump 1
fault_of_head Heads.NewerFormat = NewerFormat

-- Why reading ends with a fault. The reader can't be read: a call failed, the last one, or none did, and so many were made as
-- may be for a line, or more. Else no call failed.
abbrev pub HasCause : ReadsMade → DumpFault → Type 0
HasCause all Read = ((made : ℕ) × Made all made 1) ⊎ ((made : ℕ) × (most_calls ≤ made) × Made all made 0)
HasCause all (NotADump line) = NoneFailed all
HasCause all NewerFormat = NoneFailed all
HasCause all TooLong = NoneFailed all
HasCause all Memory = NoneFailed all
