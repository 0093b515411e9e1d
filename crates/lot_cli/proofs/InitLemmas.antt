-- A book that is made, or not.
use Rattle.std.proofs.Common.{◌≡◌, ◌≢◌, inl, inr, ℕ, List, [], IsTrue, Option}
use Rattle.sqlite.specs.State.{HasCleanDisk, KeepsCommit, State, Survives}
use Rattle.lot_stored.specs.StandFor.{Stands}
use Rattle.lot_io.specs.Writes.{WritesMade}
use Rattle.lot_cli.specs.Says.{Halts, Succeeds, Told}
use Rattle.lot_cli.specs.Init.{Makes, ready_line}
use Rattle.lot_cli.specs.declared.halt.Halt.TheVariants as halt
use Rattle.lot_store.specs.Create.{IsHandedBack, LeavesAfter, LeavesNew, RefusedFor}
use Rattle.lot_store.specs.declared.fault.CreateFault.{CreateFault}
use Rattle.lot_store.specs.declared.fault.CreateFault.TheVariants.{NotABook}
use Rattle.lot_table.specs.Shape.{schema_of}

pub makes : (old new : State) (before written : Option (List ℕ)) (calls : WritesMade) (told : Told) → (HasCleanDisk new → Stands new [])
    → (HasCleanDisk new → IsTrue new.is_open × (new.committed ≡ new.now)) → old.now.schema ≡ schema_of []
    → Survives old new (LeavesNew old) → Succeeds ready_line before written calls told
    → Makes old new before written calls told
makes old new before written calls told made committed empty crash said =
    inl (record { made = made; committed = committed; empty = empty; crash = crash }, said)

pub makes_none : (old new : State) (before written : Option (List ℕ)) (calls : WritesMade) (fault : CreateFault) (told : Told) → (HasCleanDisk new → RefusedFor old new fault)
    → (old.now.schema ≢ schema_of [] → fault ≡ NotABook) → (HasCleanDisk new → IsHandedBack old new) → (HasCleanDisk new → KeepsCommit old new)
    → Survives old new (LeavesAfter fault old) → Halts (halt.Create fault) before written calls told
    → Makes old new before written calls told
makes_none old new before written calls fault told refused other back kept crash said =
    inr (fault, record { refused = refused; other = other; handed_back = back; kept = kept; crash = crash }, said)
