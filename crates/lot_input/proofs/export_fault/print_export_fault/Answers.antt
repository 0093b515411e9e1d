-- The line of each fault.
use Rattle.std.proofs.Common.{sym}
use Rattle.lot_input.proofs.export_fault.print_export_fault.Goals as goal

pub returns-in-BadHeader-clause-bytes : goal.returns-in-BadHeader-clause-bytes
returns-in-BadHeader-clause-bytes g c = rw (c.in-BadHeader.is, sym c.name_of_name.ensures) c.print_numbered-in-BadHeader.ensures.bytes

pub returns-in-BadRow-clause-bytes : goal.returns-in-BadRow-clause-bytes
returns-in-BadRow-clause-bytes g c = rw (c.in-BadRow.is, sym c.name_of_row.ensures) c.print_numbered-in-BadRow.ensures.bytes

pub returns-in-TooManyRows-clause-bytes : goal.returns-in-TooManyRows-clause-bytes
returns-in-TooManyRows-clause-bytes g c = rw c.in-TooManyRows.is c.print_texts-in-TooManyRows.ensures.bytes

pub returns-in-Row-clause-bytes : goal.returns-in-Row-clause-bytes
returns-in-Row-clause-bytes g c = rw (c.in-Row.is, sym c.name_of_saying.ensures) c.print_numbered-in-Row.ensures.bytes

pub returns-in-NothingLeft-clause-bytes : goal.returns-in-NothingLeft-clause-bytes
returns-in-NothingLeft-clause-bytes g c = rw c.in-NothingLeft.is c.print_numbered-in-NothingLeft.ensures.bytes
