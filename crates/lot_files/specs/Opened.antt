-- A database that is opened: that of a file, or a copy of it, by what it is opened for.
use Rattle.std.specs.Prelude.{◌≡◌, ◌⊎◌, ℕ, List, false, IfOk, None, Result, Ok, Err}
use Rattle.sqlite.specs.Files.{Finds, file_state}
use Rattle.sqlite.specs.Held.{Held}
use Rattle.sqlite.specs.State.{HasCleanDisk}
use Rattle.sqlite_disk.specs.declared.Disk.{Ghosts}
use Rattle.sqlite_disk.specs.declared.Files.{Files}
use Rattle.sqlite_store.specs.declared.store.FileStore.{FileStore}
use Rattle.lot_files.specs.Medium.{AreInMemory, AreOfSystem}
use Rattle.lot_files.specs.declared.medium.Medium.{Medium}
use Rattle.lot_files.specs.declared.opened.Access.{Access}
use Rattle.lot_files.specs.declared.opened.Access.TheVariants.{Copy as ToTry, Read, Write}
use Rattle.lot_files.specs.declared.opened.Opened.{Opened}
use Rattle.lot_files.specs.declared.opened.Opened.TheVariants.{Copy, File}

-- what is so of a database, whichever it is
abbrev pub IsSo : {D : Type 0} → (D → Type 0) → Opened D → Type 0
IsSo so (File database) = so database
IsSo so (Copy database) = so database

module _ {D : Type 0} (is_in copies : List ℕ → D → Type 0) where
  -- To be written it is the one in the file, to be tried on a copy. To be read it is either.
  abbrev pub IsOpenedFor : Access → List ℕ → Opened D → Type 0
  IsOpenedFor Write path (File database) = is_in path database
  IsOpenedFor Write path (Copy database) = ⊥
  IsOpenedFor ToTry path (File database) = ⊥
  IsOpenedFor ToTry path (Copy database) = copies path database
  IsOpenedFor Read path (File database) = is_in path database
  IsOpenedFor Read path (Copy database) = copies path database

  -- the same of a database alone
  abbrev pub IsFor : Access → List ℕ → D → Type 0
  IsFor Write path database = is_in path database
  IsFor ToTry path database = copies path database
  IsFor Read path database = is_in path database ⊎ copies path database

-- The marks in the log of a connection begin with that number. No clause of the library says what it makes of the number. This
-- definition isn't opened but in the proof of the call that hands the number over: so what is said of one number is never said of
-- another.
pub IsMarkedBy : {C : Type 0} → ℕ → C → Type 0
IsMarkedBy number conn = Unit {0}

pub marked_by : {C E : Type 0} (number : ℕ) (result : Result C E) → IfOk result (λ conn. IsMarkedBy number conn)
unfolding IsMarkedBy
marked_by number (Ok conn) = tt
marked_by number (Err error) = tt

-- a connection over two files shows what they held
module _ {A B : Type 0} {g : Ghosts (Medium A B)} where
  abbrev IsOver : (Files (Medium A B) → Type 0) → Held (FileStore (Medium A B) g) → Type 0
  IsOver Are conn = HasCleanDisk (file_state conn) → (files : Files (Medium A B)) × Are files × Finds files conn

  -- over two files of the system: what is written goes there
  abbrev pub IsOverSystem : Held (FileStore (Medium A B) g) → Type 0
  IsOverSystem conn = IsOver AreOfSystem conn

  -- over two files in memory: nothing of it stays
  abbrev pub IsOverMemory : Held (FileStore (Medium A B) g) → Type 0
  IsOverMemory conn = IsOver AreInMemory conn

  -- it is in no transaction, and no limit is set on the steps of its statements
  abbrev pub IsReady : Held (FileStore (Medium A B) g) → Type 0
  IsReady conn = (conn.in_transaction ≡ false) × (conn.step_limit ≡ None)
