-- The line that reports why an input gives no commands, and the status (docs/FORMATS.md, Faults).
use Rattle.std.specs.Prelude.{List, ℕ, ◌++◌, codes, decimal}
use Rattle.lot_stream.specs.FaultLine.{fault_line}
use Rattle.lot_stream.specs.Status.{fault_of_input, fault_of_text, status_of}
use Rattle.lot_stream.specs.declared.status.Status.{Status}
use Rattle.lot_stream.specs.declared.status.Status.TheVariants.{BadInput, Stopped}
use Rattle.lot_import.specs.declared.fault.Cause.{Cause}
use Rattle.lot_import.specs.declared.fault.Cause.TheVariants as cause
use Rattle.lot_import.specs.declared.fault.KeyedFault.{KeyedFault}
use Rattle.lot_import.specs.declared.fault.KeyedFault.TheVariants as cash
use Rattle.lot_import.specs.declared.fault.RowsFault.{RowsFault}
use Rattle.lot_import.specs.declared.fault.RowsFault.TheVariants as rows
use Rattle.lot_input.specs.ExportLine.{export_line, status_of_export}
use Rattle.lot_input.specs.StatementLine.{statement_line, status_of_statement}
use Rattle.lot_report.specs.Printed.{line}
use Rattle.lot_input.specs.declared.fault.InputFault.{InputFault}
use Rattle.lot_input.specs.declared.fault.InputFault.TheVariants.{Unasked, Unread, Text, Rows, Cash, Export, Statement, Memory}

-- ---- the line

abbrev pub memory_line : List ℕ
memory_line = line (codes "fault Memory")

-- the name of the cause by which a row of a broker file is faulty
abbrev pub cause_name : Cause → List ℕ
cause_name cause.Length = codes "Length"
cause_name cause.Ref = codes "Ref"
cause_name cause.Date = codes "Date"
cause_name cause.Action = codes "Action"
cause_name cause.Symbol = codes "Symbol"
cause_name cause.Units = codes "Units"
cause_name cause.Price = codes "Price"
cause_name cause.Currency = codes "Currency"
cause_name cause.Fee = codes "Fee"
cause_name cause.Lot = codes "Lot"

abbrev pub rows_line : RowsFault → List ℕ
rows_line rows.BadHeader = line (codes "fault header C1 BadHeader")
rows_line (rows.BadRow number cause) = line (codes "fault row " ++ decimal number ++ (codes " C2 BadRow " ++ cause_name cause))
rows_line rows.TooManyRows = line (codes "fault C3 TooManyRows")
rows_line rows.Memory = memory_line

abbrev pub cash_line : KeyedFault → List ℕ
cash_line (cash.InexactAmount number) = line (codes "fault row " ++ decimal number ++ codes " C4 InexactAmount")
cash_line cash.Memory = memory_line

abbrev pub input_line : InputFault → List ℕ
input_line (Unread fault) = fault_line (fault_of_input fault)
input_line (Text fault) = fault_line (fault_of_text fault)
input_line (Rows fault) = rows_line fault
input_line (Cash fault) = cash_line fault
input_line (Export fault) = export_line fault
input_line (Statement fault) = statement_line fault
input_line Unasked = memory_line
input_line Memory = memory_line

-- ---- the status

-- where memory ends, the action is stopped; every other fault is the input's
abbrev pub status_of_rows : RowsFault → Status
status_of_rows rows.BadHeader = BadInput
status_of_rows (rows.BadRow number cause) = BadInput
status_of_rows rows.TooManyRows = BadInput
status_of_rows rows.Memory = Stopped

abbrev pub status_of_cash : KeyedFault → Status
status_of_cash (cash.InexactAmount number) = BadInput
status_of_cash cash.Memory = Stopped

abbrev pub status_of_input : InputFault → Status
status_of_input (Unread fault) = status_of (fault_of_input fault)
status_of_input (Text fault) = status_of (fault_of_text fault)
status_of_input (Rows fault) = status_of_rows fault
status_of_input (Cash fault) = status_of_cash fault
status_of_input (Export fault) = status_of_export fault
status_of_input (Statement fault) = status_of_statement fault
status_of_input Unasked = Stopped
status_of_input Memory = Stopped
