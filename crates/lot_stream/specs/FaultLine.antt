-- The line that reports a fault (docs/FORMATS.md, Printed texts).
use Rattle.std.specs.Prelude.{ℕ, List, [], ◌++◌, codes, decimal}
use Rattle.lot_report.specs.Printed.{line}
use Rattle.lot_stream.specs.declared.fault.Fault.{Fault}
use Rattle.lot_read.specs.declared.fault.LineFault.{LineFault}

-- the code and the name of a fault of ledger text
abbrev pub name_text : LineFault → List ℕ
name_text LineFault.NotUtf8 = codes "X1 NotUtf8"
name_text LineFault.Syntax = codes "X2 Syntax"
name_text LineFault.UnknownDirective = codes "X3 UnknownDirective"
name_text LineFault.BadNumber = codes "X4 BadNumber"
name_text LineFault.BadName = codes "X5 BadName"
name_text LineFault.BadDay = codes "X6 BadDay"
name_text LineFault.TooLong = codes "X7 LineTooLong"

-- a fault of the writer has none
abbrev pub fault_line : Fault → List ℕ
fault_line Fault.Read = line (codes "fault K1 Read")
fault_line Fault.TooLong = line (codes "fault K2 TooLong")
fault_line (Fault.Text number fault) = line (codes "fault line " ++ decimal number ++ (codes " " ++ name_text fault))
fault_line Fault.Range = line (codes "fault P1 Range")
fault_line Fault.Write = []
fault_line Fault.Memory = line (codes "fault Memory")
fault_line (Fault.MemoryAt number) = line (decimal number ++ codes " fault Memory")
