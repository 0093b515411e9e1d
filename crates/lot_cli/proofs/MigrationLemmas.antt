-- A book that is migrated, or not.
use Rattle.std.proofs.Common.{inl, inr, ℕ, List, Option}
use Rattle.sqlite.specs.State.{HasCleanDisk, KeepsCommit, State, Survives}
use Rattle.lot_book.specs.Facts.{Entry}
use Rattle.lot_stored.specs.StandFor.{Stands}
use Rattle.lot_io.specs.Writes.{WritesMade}
use Rattle.lot_migrate.specs.First.{StandsFirst}
use Rattle.lot_migrate.specs.Migrate.{IsOfFirst, IsOfSecond, LeavesMigrated, Migrates, NotMigrated}
use Rattle.lot_migrate.specs.declared.fault.MigrateFault.{MigrateFault}
use Rattle.lot_cli.specs.Says.{Halts, Succeeds, Told}
use Rattle.lot_cli.specs.Serve.{SaysMigrated, migrated_line}
use Rattle.lot_cli.specs.declared.halt.Halt.TheVariants as halt
use Rattle.lot_store.specs.Create.{IsHandedBack}

module _ (old new : State) (before written : Option (List ℕ)) (calls : WritesMade) (told : Told) where
  pub takes_over : (HasCleanDisk new → Migrates old new) → Survives old new (LeavesMigrated old)
      → Succeeds migrated_line before written calls told → SaysMigrated old new before written calls told
  takes_over migrates crash said = inl (record { migrates = migrates; crash = crash }, said)

  pub takes_none_over : (fault : MigrateFault) → (HasCleanDisk new → NotMigrated old new fault)
      → (HasCleanDisk new → (entries : List Entry) → StandsFirst old entries → IsOfFirst fault)
      → (HasCleanDisk new → (entries : List Entry) → Stands old entries → IsOfSecond old new fault)
      → (HasCleanDisk new → IsHandedBack old new) → (HasCleanDisk new → KeepsCommit old new)
      → Survives old new (LeavesMigrated old) → Halts (halt.Migrate fault) before written calls told
      → SaysMigrated old new before written calls told
  takes_none_over fault refused first second back kept crash said = inr (
    fault,
    record {
      refused = refused;
      of_first = first;
      of_second = second;
      handed_back = back;
      kept = kept;
      crash = crash;
    },
    said,
  )
