-- A book that is made in a database, or not (docs/RULES.md, The program).
use Rattle.std.specs.Prelude.{◌≡◌, ◌≢◌, ◌⊎◌, ℕ, List, [], IsTrue, Option, codes}
use Rattle.sqlite.specs.State.{HasCleanDisk, KeepsCommit, State, Survives}
use Rattle.lot_stored.specs.StandFor.{Stands}
use Rattle.lot_io.specs.Writes.{WritesMade}
use Rattle.lot_report.specs.Printed.{line}
use Rattle.lot_cli.specs.Says.{Halts, Succeeds, Told}
use Rattle.lot_cli.specs.declared.halt.Halt.TheVariants as halt
use Rattle.lot_store.specs.Create.{IsHandedBack, LeavesAfter, LeavesNew, RefusedFor}
use Rattle.lot_store.specs.declared.fault.CreateFault.{CreateFault}
use Rattle.lot_store.specs.declared.fault.CreateFault.TheVariants.{NotABook}
use Rattle.lot_table.specs.Shape.{schema_of}

abbrev pub ready_line : List ℕ
ready_line = line (codes "book ready")

-- The tables of a book without entries are made in a database that had none, in one commit. A crash during the call leaves
-- them or what it could leave before.
pub record IsMade (old new : State) : Type 0 where
  pub made : HasCleanDisk new → Stands new []
  pub committed : HasCleanDisk new → IsTrue new.is_open × (new.committed ≡ new.now)
  pub empty : old.now.schema ≡ schema_of []
  pub crash : Survives old new (LeavesNew old)

-- none is made, for what the fault says, and the database is handed back as it was; a crash may leave one only where the commit
-- failed, or memory ended
pub record IsNotMade (old new : State) (fault : CreateFault) : Type 0 where
  pub refused : HasCleanDisk new → RefusedFor old new fault
  pub other : old.now.schema ≢ schema_of [] → fault ≡ NotABook
  pub handed_back : HasCleanDisk new → IsHandedBack old new
  pub kept : HasCleanDisk new → KeepsCommit old new
  pub crash : Survives old new (LeavesAfter fault old)

abbrev pub Makes : State → State → Option (List ℕ) → Option (List ℕ) → WritesMade → Told → Type 0
Makes old new before written calls told =
    (IsMade old new × Succeeds ready_line before written calls told)
    ⊎ ((fault : CreateFault) × IsNotMade old new fault
    × Halts (halt.Create fault) before written calls told)
