-- What verifying a database tells of it.
use Rattle.std.specs.Prelude.{Err}
use Rattle.sqlite.specs.State.{State}
use Rattle.lot_store.specs.Create.{IsTaken, TellsOf}
use Rattle.lot_store.specs.declared.fault.AdoptFault.TheVariants as adopt
use Rattle.lot_table.specs.Statement.{DiskFailed}
use Rattle.lot_verify.specs.declared.fault.VerifyFault.{VerifyFault}
use Rattle.lot_verify.specs.declared.fault.VerifyFault.TheVariants as verify

-- What a fault tells. The database isn't taken up as a book, for that reason; or it is one that is
-- taken up, which alone can be damaged; or the disk failed.
abbrev pub NotVerified : State → State → VerifyFault → Type 0
NotVerified old new verify.NotABook = TellsOf old new (Err adopt.NotABook)
NotVerified old new verify.OlderEdition = TellsOf old new (Err adopt.OlderEdition)
NotVerified old new verify.NewerEdition = TellsOf old new (Err adopt.NewerEdition)
NotVerified old new verify.Damaged = IsTaken old
NotVerified old new verify.Device = DiskFailed old new
NotVerified old new verify.Memory = Unit {0}
