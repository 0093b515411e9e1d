-- The faults of restoring that others' faults are.
use Rattle.lot_report.specs.declared.line.PrintFault.{PrintFault}
use Rattle.lot_report.specs.declared.line.PrintFault.TheVariants as print
use Rattle.lot_restore.specs.declared.fault.RestoreFault.{RestoreFault}
use Rattle.lot_restore.specs.declared.fault.RestoreFault.TheVariants.{Book, Write}
use Rattle.lot_store.specs.declared.fault.CreateFault.TheVariants.{Device, Memory, NotABook}
use Rattle.lot_table.specs.declared.fault.Fault as table

abbrev pub fault_of_print : PrintFault → RestoreFault
fault_of_print print.Write = Write
fault_of_print print.Memory = Book Memory

-- tables that are damaged are no book's
abbrev pub fault_of_table : table.Fault → RestoreFault
fault_of_table table.TheVariants.Device = Book Device
fault_of_table table.TheVariants.Damaged = Book NotABook
fault_of_table table.TheVariants.Memory = Book Memory
