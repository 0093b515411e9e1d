-- What is read off a file of either kind: what is read off the file that it is.
use Rattle.std.specs.Prelude.{ℕ, Bool, IsTrue}
use Rattle.sqlite_disk.specs.declared.files.Files.{Files}
use Rattle.lot_files.specs.declared.medium.Medium.{Medium}
use Rattle.lot_files.specs.declared.medium.Medium.TheVariants.{Memory, System}

module _ {A B : Type 0} where
  abbrev pub either : {X : Type 0} → (A → X) → (B → X) → Medium A B → X
  either system memory (System file) = system file
  either system memory (Memory file) = memory file

  abbrev pub IsOfSystem : Medium A B → Type 0
  IsOfSystem (System file) = Unit {0}
  IsOfSystem (Memory file) = ⊥

  abbrev IsInMemory : Medium A B → Type 0
  IsInMemory (System file) = ⊥
  IsInMemory (Memory file) = Unit {0}

  -- both files of a database are files of the system, or both are in memory
  abbrev pub AreOfSystem : Files (Medium A B) → Type 0
  AreOfSystem files = IsOfSystem files.log × IsOfSystem files.db

  abbrev pub AreInMemory : Files (Medium A B) → Type 0
  AreInMemory files = IsInMemory files.log × IsInMemory files.db

  -- files in memory are files of either kind
  abbrev pub in_memory : Files B → Files (Medium A B)
  in_memory files = record { log = Memory files.log; db = Memory files.db }

  -- the same of what may be so of it
  abbrev pub MayEither : {X : Type 0} → (A → X → Type 0) → (B → X → Type 0) → Medium A B → X → Type 0
  MayEither system memory (System file) = system file
  MayEither system memory (Memory file) = memory file

  -- what every file of both kinds may have, every file of either kind may have
  pub may_either : {X : Type 0} (seen : A → X) (seen' : B → X) (May : A → X → Type 0) (May' : B → X → Type 0)
      → ((file : A) → May file (seen file)) → ((file : B) → May' file (seen' file)) → (file : Medium A B)
      → MayEither May May' file (either seen seen' file)
  may_either seen seen' May May' system memory (System file) = system file
  may_either seen seen' May May' system memory (Memory file) = memory file

  -- where a clean file of both kinds is fair, one of either kind is
  pub fair_either : (clean : A → Bool) (clean' : B → Bool) (fair : A → ℕ → Bool) (fair' : B → ℕ → Bool)
      → ((file : A) (key : ℕ) → IsTrue (clean file) → IsTrue (fair file key))
      → ((file : B) (key : ℕ) → IsTrue (clean' file) → IsTrue (fair' file key)) → (file : Medium A B) (key : ℕ)
      → IsTrue (either clean clean' file) → IsTrue (either fair fair' file key)
  fair_either clean clean' fair fair' system memory (System file) = system file
  fair_either clean clean' fair fair' system memory (Memory file) = memory file
