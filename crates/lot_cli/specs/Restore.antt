-- A book that is made of a dump, or not (docs/RULES.md, The program).
use Rattle.std.specs.Prelude.{◌≡◌, ◌≢◌, ◌⊎◌, List, ℕ, [], None, Ok, Err, Option, codes}
use Rattle.sqlite.specs.State.{HasCleanDisk, State, Survives}
use Rattle.lot_args.specs.declared.action.Restore.{Restore}
use Rattle.lot_input.specs.Input.{Reading}
use Rattle.lot_io.specs.Writes.{NoneFailed, WriteCalls, WritesMade}
use Rattle.lot_report.specs.Printed.{line}
use Rattle.lot_restore.specs.Restoring.{Fails, MayMake, RestoresDump, Terms}
use Rattle.lot_restore.specs.Stopped.{ReadsIn, SaysSome}
use Rattle.lot_restore.specs.declared.fault.RestoreFault.{RestoreFault}
use Rattle.lot_restore.specs.declared.fault.RestoreFault.TheVariants.{Book, Sum, Text, Write}
use Rattle.lot_restore.specs.declared.restoring.Restored.{Restored}
use Rattle.lot_restore.specs.declared.restoring.Restored.TheVariants.{InPart, NotMade, Whole}
use Rattle.lot_store.specs.Step.{LeavesTables}
use Rattle.lot_store.specs.declared.fault.CreateFault.TheVariants.{NotABook}
use Rattle.lot_stream.specs.Status.{code_of}
use Rattle.lot_stream.specs.declared.status.Status.{Status}
use Rattle.lot_stream.specs.declared.status.Status.TheVariants.{Accepted, Refused, Stopped}
use Rattle.lot_table.specs.Shape.{schema_of}
use Rattle.lot_cli.specs.Says.{Halts, Says, Told}
use Rattle.lot_cli.specs.declared.halt.Halt.TheVariants as halt

-- what leaves entries out, and what is borne with
abbrev pub terms_for : Restore → Terms
terms_for asked = record { without = asked.without.items; strictness = asked.strictness; tolerance = asked.tolerance }

-- ---- the answer

-- behind the lines of what was refused, and of what left out none, it is said that the book is made, if it is
abbrev pub answer_of : Restored → List ℕ
answer_of Whole = line (codes "book restored")
answer_of InPart = line (codes "book restored")
answer_of NotMade = []

-- one refused command is enough, and one option that left out none
abbrev pub status_of_restored : Restored → Status
status_of_restored Whole = Accepted
status_of_restored InPart = Refused
status_of_restored NotMade = Refused

-- The dump was read to its end. The book is made in a database without tables, in one commit, or all is as it was; what there is to
-- say is written, with the answer behind it.
pub record IsRestored (asked : Terms) (input : Reading) (old new : State) (before written : Option (List ℕ)) (calls : WritesMade)
    (told : Told) : Type 0 where
  pub how : Restored
  pub mid : Option (List ℕ)
  pub between : Option WriteCalls
  pub empty : old.now.schema ≡ schema_of []
  pub restores : RestoresDump asked input.bytes before mid old new how
  pub crash : Survives old new (MayMake asked input.bytes (Ok how))
  pub read : ReadsIn {A = Restored} (Ok how) input.calls
  pub none_failed : NoneFailed calls.before between
  pub says : Says (answer_of how) (status_of_restored how) mid written (record { before = between; after = calls.after }) told.status
  pub goes_on : told.halt ≡ None

-- ---- a fault

-- nothing more is asked of a writer that failed
abbrev pub IsMute : Option (List ℕ) → Option (List ℕ) → WritesMade → Told → Type 0
IsMute mid written calls told =
    (written ≡ mid) × (calls.after ≡ calls.before) × (told.status ≡ code_of Stopped) × (told.halt ≡ None)

-- the line of the fault ends it, unless the writer failed
abbrev pub EndsUnrestored : RestoreFault → Option (List ℕ) → Option (List ℕ) → WritesMade → Told → Type 0
EndsUnrestored (Book fault) mid written calls told = Halts (halt.Restore (Book fault)) mid written calls told
EndsUnrestored (Text fault) mid written calls told = Halts (halt.Restore (Text fault)) mid written calls told
EndsUnrestored (Sum fault) mid written calls told = Halts (halt.Restore (Sum fault)) mid written calls told
EndsUnrestored Write mid written calls told = IsMute mid written calls told

-- Nothing is made, for that fault, and the tables stay as they were. After a commit that failed a crash may leave the book.
pub record IsNotRestored (asked : Terms) (input : Reading) (old new : State) (before written : Option (List ℕ)) (calls : WritesMade)
    (told : Told) (fault : RestoreFault) : Type 0 where
  pub mid : Option (List ℕ)
  pub between : Option WriteCalls
  pub fails : Fails asked input.bytes old new between fault
  pub other : old.now.schema ≢ schema_of [] → fault ≡ Book NotABook
  pub unchanged : HasCleanDisk new → LeavesTables old new
  pub crash : Survives old new (MayMake asked input.bytes (Err fault))
  pub read : ReadsIn {A = Restored} (Err fault) input.calls
  pub said : SaysSome asked.without input.bytes before mid new
  pub ends : EndsUnrestored fault mid written (record { before = between; after = calls.after }) told

abbrev pub RestoresBook : Terms → Reading → State → State → Option (List ℕ) → Option (List ℕ) → WritesMade → Told → Type 0
RestoresBook asked input old new before written calls told =
    IsRestored asked input old new before written calls told
    ⊎ ((fault : RestoreFault) × IsNotRestored asked input old new before written calls told fault)
