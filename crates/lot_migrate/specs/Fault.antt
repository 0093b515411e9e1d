-- What a failure on the way is to a caller of the migration.
use Rattle.std.specs.Prelude.{Option, None, Some, Result, Ok, Err}
use Rattle.sqlite.specs.declared.error.Error.{Error}
use Rattle.sqlite.specs.declared.error.Error.TheVariants.{SqliteFailure}
use Rattle.sqlite.specs.declared.error.ErrorCode.TheVariants as code
use Rattle.lot_table.specs.declared.fault.Fault as table
use Rattle.lot_table.specs.declared.make.MakeFault as make
use Rattle.lot_store.specs.declared.fault.AdoptFault.{AdoptFault}
use Rattle.lot_store.specs.declared.fault.AdoptFault.TheVariants as adopt
use Rattle.lot_migrate.specs.declared.fault.MigrateFault.{MigrateFault}
use Rattle.lot_migrate.specs.declared.fault.MigrateFault.TheVariants as migrate

-- of the tables
abbrev pub migrate_fault_of : table.Fault → MigrateFault
migrate_fault_of table.TheVariants.Device = migrate.Device
migrate_fault_of table.TheVariants.Damaged = migrate.Damaged
migrate_fault_of table.TheVariants.Memory = migrate.Memory

-- of the two tables that are added: a name that is taken is that of no book's
abbrev pub add_fault_of : make.MakeFault → MigrateFault
add_fault_of make.TheVariants.Taken = migrate.NotABook
add_fault_of (make.TheVariants.Failed fault) = migrate_fault_of fault

-- of the commit: but for memory nobody knows whether it was made
abbrev pub migrate_commit_fault : Error → MigrateFault
migrate_commit_fault (SqliteFailure code.OutOfMemory) = migrate.Memory
migrate_commit_fault _ = migrate.InDoubt

abbrev pub migrate_outcome : {A : Type 0} → Result A Error → Result A MigrateFault
migrate_outcome (Ok done) = Ok done
migrate_outcome (Err error) = Err (migrate_commit_fault error)

-- of a database that isn't taken up as a book: one of an older edition is migrated
abbrev pub refusal_of : AdoptFault → Option MigrateFault
refusal_of adopt.OlderEdition = None
refusal_of adopt.NotABook = Some migrate.NotABook
refusal_of adopt.NewerEdition = Some migrate.NewerEdition
refusal_of adopt.Device = Some migrate.Device
refusal_of adopt.Memory = Some migrate.Memory
