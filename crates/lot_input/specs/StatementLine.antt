-- The line that reports why an input is no statement, and the status (docs/FORMATS.md, Faults).
use Rattle.std.specs.Prelude.{List, ℕ, ◌++◌, codes, decimal}
use Rattle.lot_report.specs.Printed.{line}
use Rattle.lot_statement.specs.declared.fault.LineCause.{LineCause}
use Rattle.lot_statement.specs.declared.fault.LineCause.TheVariants.{Length, Commodity, Units, Repeated}
use Rattle.lot_statement.specs.declared.fault.StatementFault.{StatementFault}
use Rattle.lot_statement.specs.declared.fault.StatementFault.TheVariants.{BadHeader, BadRow, Memory}
use Rattle.lot_stream.specs.declared.status.Status.{Status}
use Rattle.lot_stream.specs.declared.status.Status.TheVariants.{BadInput, Stopped}

-- the name of the cause by which a row is faulty
abbrev pub line_cause_name : LineCause → List ℕ
line_cause_name Length = codes "Length"
line_cause_name Commodity = codes "Commodity"
line_cause_name Units = codes "Units"
line_cause_name Repeated = codes "Repeated"

abbrev pub statement_line : StatementFault → List ℕ
statement_line BadHeader = line (codes "fault header C1 BadHeader")
statement_line (BadRow number cause) = line (codes "fault row " ++ decimal number ++ (codes " C2 BadRow " ++ line_cause_name cause))
statement_line Memory = line (codes "fault Memory")

-- where memory ends, the action is stopped; every other fault is the input's
abbrev pub status_of_statement : StatementFault → Status
status_of_statement BadHeader = BadInput
status_of_statement (BadRow number cause) = BadInput
status_of_statement Memory = Stopped
