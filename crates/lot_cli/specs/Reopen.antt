-- What an open finds of a book that a stop left (docs/PROMISES.md, The headline).
use Rattle.std.specs.Prelude.{List, IsTrue}
use Rattle.sqlite.specs.Files.{Finds, IsOpened, image_of}
use Rattle.sqlite.specs.Held.{Held}
use Rattle.sqlite.specs.State.{State}
use Rattle.sqlite.specs.Tree.{Trees}
use Rattle.sqlite_disk.specs.declared.Disk.{Ghosts}
use Rattle.sqlite_disk.specs.declared.Files.{Files}
use Rattle.sqlite_store.specs.FileStore.{state, view}
use Rattle.sqlite_store.specs.declared.store.FileStore.{FileStore}
use Rattle.lot_book.specs.Facts.{Entry}
use Rattle.lot_stored.specs.StandFor.{Left, Stands}

-- whatever a crash leaves is one of these books
abbrev pub LeavesOneOf : (List Entry → Type 0) → (Trees → Type 0) → Type 0
LeavesOneOf Books may_leave =
    (trees : Trees) → may_leave trees → (book : List Entry) × Books book × Left trees book

-- the database is one of these books
abbrev pub StandsForOneOf : (List Entry → Type 0) → State → Type 0
StandsForOneOf Books s = ∥ ((book : List Entry) × Books book × Stands s book) ∥₁

-- A connection was stopped, and its two files are opened again: they read as a crash may leave
-- them.
pub record IsOpenedAgain {D : Type 0} {g : Ghosts D} (stopped : Held (FileStore D g))
    (files : Files D) (c : Held (FileStore D g)) : Type 0 where
  -- as the store of each connection is
  pub numbered : IsTrue (view stopped.store).is_numbered
  pub left : (state stopped.store).may_leave (image_of g files)
  pub finds : Finds files c
  pub opened : IsOpened c
