-- Why an export gives no commands.
use Rattle.lot_sheet.specs.declared.fault.SheetFault.{SheetFault}
use Rattle.lot_sheet.specs.declared.fault.SheetFault.TheVariants as sheet
use Rattle.lot_export.specs.declared.fault.ExportFault.{ExportFault}
use Rattle.lot_export.specs.declared.fault.ExportFault.TheVariants as fault

-- the fault of bytes that have no rows, without the name of a column
abbrev pub of_sheet : SheetFault → ExportFault
of_sheet (sheet.NotText line) = fault.NotText line
of_sheet sheet.NoHeader = fault.NoHeader
of_sheet (sheet.BadHeader line name cause) = fault.BadHeader line cause
of_sheet (sheet.BadRow row cause) = fault.BadRow row cause
of_sheet sheet.TooManyRows = fault.TooManyRows
of_sheet sheet.Memory = fault.Memory
