-- What a failure is to a caller of the tables.
use Rattle.lot_base.specs.declared.fault.NameFault.{NameFault}
use Rattle.lot_base.specs.declared.fault.NameFault.TheVariants as name
use Rattle.lot_table.specs.declared.fault.Fault.{Fault}
use Rattle.lot_table.specs.declared.fault.Fault.TheVariants.{Device, Damaged, Memory}
use Rattle.sqlite.specs.declared.error.Error.{Error}
use Rattle.sqlite.specs.declared.error.Error.TheVariants.{SqliteFailure}
use Rattle.sqlite.specs.declared.error.ErrorCode.TheVariants as code

-- of the database: the disk and each limit of the database's size are the device, and every other refusal is damage
abbrev pub fault_of : Error → Fault
fault_of (SqliteFailure code.OutOfMemory) = Memory
fault_of (SqliteFailure code.SystemIoFailure) = Device
fault_of (SqliteFailure code.DatabaseCorrupt) = Device
fault_of (SqliteFailure code.DiskFull) = Device
fault_of (SqliteFailure code.TooBig) = Device
fault_of (SqliteFailure code.SchemaTooBig) = Device
fault_of (SqliteFailure code.NoRowid) = Device
fault_of (SqliteFailure code.Closed) = Device
fault_of _ = Damaged

-- of a name in a row: a text that is no name is damage
abbrev pub name_fault : NameFault → Fault
name_fault name.Memory = Memory
name_fault _ = Damaged
