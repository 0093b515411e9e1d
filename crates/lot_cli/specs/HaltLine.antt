-- The line that reports why an action ended before its first command, and the status (docs/FORMATS.md, Faults;
-- docs/RULES.md, The program).
use Rattle.std.specs.Prelude.{List, ℕ, [], ◌++◌, codes}
use Rattle.lot_stream.specs.declared.status.Status.{Status}
use Rattle.lot_stream.specs.FaultLine.{fault_line}
use Rattle.lot_stream.specs.declared.fault.Fault.TheVariants as fault
use Rattle.lot_stream.specs.declared.status.Status.TheVariants.{BadInput, Stopped}
use Rattle.lot_report.specs.Printed.{line}
use Rattle.lot_input.specs.InputLine.{input_line, status_of_input}
use Rattle.lot_cli.specs.declared.halt.Halt.{Halt}
use Rattle.lot_cli.specs.declared.halt.Halt.TheVariants.{Adopt, Create, Input, Migrate, Restore, Verify}
use Rattle.lot_migrate.specs.declared.fault.MigrateFault.{MigrateFault}
use Rattle.lot_migrate.specs.declared.fault.MigrateFault.TheVariants as migrate
use Rattle.lot_parts.specs.declared.commands.CommandFault.{CommandFault}
use Rattle.lot_parts.specs.declared.commands.CommandFault.TheVariants as command
use Rattle.lot_parts.specs.declared.compare.SumFault.{SumFault}
use Rattle.lot_parts.specs.declared.compare.SumFault.TheVariants as sum
use Rattle.lot_parts.specs.declared.fault.DumpFault.{DumpFault}
use Rattle.lot_parts.specs.declared.fault.DumpFault.TheVariants as dump
use Rattle.lot_restore.specs.declared.fault.RestoreFault.{RestoreFault}
use Rattle.lot_restore.specs.declared.fault.RestoreFault.TheVariants as restore
use Rattle.lot_store.specs.declared.fault.AdoptFault.{AdoptFault}
use Rattle.lot_store.specs.declared.fault.AdoptFault.TheVariants as adopt
use Rattle.lot_store.specs.declared.fault.CreateFault.{CreateFault}
use Rattle.lot_store.specs.declared.fault.CreateFault.TheVariants as create
use Rattle.lot_verify.specs.declared.fault.VerifyFault.{VerifyFault}
use Rattle.lot_verify.specs.declared.fault.VerifyFault.TheVariants as verify

-- the code and the name of a fault of making a book
abbrev pub create_name : CreateFault → List ℕ
create_name create.NotABook = codes "S1 NotABook"
create_name create.Device = codes "S4 Device"
create_name create.InDoubt = codes "S5 InDoubt"
create_name create.Memory = codes "Memory"

-- the code and the name of a fault of taking up a book
abbrev pub adopt_name : AdoptFault → List ℕ
adopt_name adopt.NotABook = codes "S1 NotABook"
adopt_name adopt.NewerEdition = codes "S2 NewerEdition"
adopt_name adopt.OlderEdition = codes "S3 OlderEdition"
adopt_name adopt.Device = codes "S4 Device"
adopt_name adopt.Memory = codes "Memory"

-- the code and the name of a fault of a migration
abbrev pub migrate_name : MigrateFault → List ℕ
migrate_name migrate.NotABook = codes "S1 NotABook"
migrate_name migrate.NewerEdition = codes "S2 NewerEdition"
migrate_name migrate.Device = codes "S4 Device"
migrate_name migrate.InDoubt = codes "S5 InDoubt"
migrate_name migrate.Damaged = codes "S7 Damaged"
migrate_name migrate.Memory = codes "Memory"

-- the code and the name of a fault of verifying a book
abbrev pub verify_name : VerifyFault → List ℕ
verify_name verify.NotABook = codes "S1 NotABook"
verify_name verify.NewerEdition = codes "S2 NewerEdition"
verify_name verify.OlderEdition = codes "S3 OlderEdition"
verify_name verify.Device = codes "S4 Device"
verify_name verify.Damaged = codes "S7 Damaged"
verify_name verify.Memory = codes "Memory"

-- the code and the name of a fault of a text that is no dump, or wasn't read
abbrev pub dump_name : DumpFault → List ℕ
dump_name (dump.NotADump line) = codes "D" ++ codes "1 NotADump"
dump_name dump.NewerFormat = codes "D" ++ codes "2 NewerFormat"
dump_name dump.Read = codes "K1 Read"
dump_name dump.TooLong = codes "K2 TooLong"
dump_name dump.Memory = codes "Memory"

-- the code and the name of a fault of a dump that was changed
abbrev pub sum_name : SumFault → List ℕ
sum_name sum.WrongDigest = codes "D" ++ codes "3 WrongDigest"
sum_name sum.WrongCount = codes "D" ++ codes "4 WrongCount"

abbrev pub command_line : CommandFault → List ℕ
command_line (command.Dump fault) = line (codes "fault " ++ dump_name fault)
command_line (command.Text number cause) = fault_line (fault.Text number cause)

-- a fault of the writer has none
abbrev pub restore_line : RestoreFault → List ℕ
restore_line (restore.Book fault) = line (codes "fault " ++ create_name fault)
restore_line (restore.Text fault) = command_line fault
restore_line (restore.Sum fault) = line (codes "fault " ++ sum_name fault)
restore_line restore.Write = []

abbrev pub halt_line : Halt → List ℕ
halt_line (Input fault) = input_line fault
halt_line (Create fault) = line (codes "fault " ++ create_name fault)
halt_line (Adopt fault) = line (codes "fault " ++ adopt_name fault)
halt_line (Migrate fault) = line (codes "fault " ++ migrate_name fault)
halt_line (Verify fault) = line (codes "fault " ++ verify_name fault)
halt_line (Restore fault) = restore_line fault

-- a fault of the input has its own status; one of the store stops the action
-- where memory ends, restoring is stopped; every other fault of the text is the input's
abbrev pub status_of_dump : DumpFault → Status
status_of_dump (dump.NotADump line) = BadInput
status_of_dump dump.NewerFormat = BadInput
status_of_dump dump.Read = BadInput
status_of_dump dump.TooLong = BadInput
status_of_dump dump.Memory = Stopped

abbrev pub status_of_restore : RestoreFault → Status
status_of_restore (restore.Book fault) = Stopped
status_of_restore (restore.Text (command.Dump fault)) = status_of_dump fault
status_of_restore (restore.Text (command.Text number fault)) = BadInput
status_of_restore (restore.Sum fault) = BadInput
status_of_restore restore.Write = Stopped

abbrev pub status_of_halt : Halt → Status
status_of_halt (Input fault) = status_of_input fault
status_of_halt (Create fault) = Stopped
status_of_halt (Adopt fault) = Stopped
status_of_halt (Migrate fault) = Stopped
status_of_halt (Verify fault) = Stopped
status_of_halt (Restore fault) = status_of_restore fault
