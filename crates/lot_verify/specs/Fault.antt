-- What a failure on the way is to a caller of verify.
use Rattle.lot_table.specs.declared.fault.Fault as table
use Rattle.lot_store.specs.declared.fault.AdoptFault.{AdoptFault}
use Rattle.lot_store.specs.declared.fault.AdoptFault.TheVariants as adopt
use Rattle.lot_verify.specs.declared.fault.VerifyFault.{VerifyFault}
use Rattle.lot_verify.specs.declared.fault.VerifyFault.TheVariants as verify

-- of the tables
abbrev pub verify_fault_of : table.Fault → VerifyFault
verify_fault_of table.TheVariants.Device = verify.Device
verify_fault_of table.TheVariants.Damaged = verify.Damaged
verify_fault_of table.TheVariants.Memory = verify.Memory

-- of a database that isn't taken up as a book
abbrev pub not_taken : AdoptFault → VerifyFault
not_taken adopt.NotABook = verify.NotABook
not_taken adopt.OlderEdition = verify.OlderEdition
not_taken adopt.NewerEdition = verify.NewerEdition
not_taken adopt.Device = verify.Device
not_taken adopt.Memory = verify.Memory
