-- A book of edition 1 becomes one of edition 2 (docs/PROMISES.md, Migration).
use Rattle.std.specs.Prelude.{◌≡◌, ◌≢◌, ◌⊎◌, IsTrue, ℕ, ℤ, List, [], ◌∷◌, length, map, Some, Err}
use Rattle.sqlite.specs.State.{IsUnchanged, State}
use Rattle.sqlite.specs.Tree.{Trees}
use Rattle.sqlite_disk.specs.Disk.{MoreFaults}
use Rattle.lot_book.specs.Facts.{Entry}
use Rattle.lot_migrate.specs.declared.opening_numbers.LotOpening.{LotOpening}
use Rattle.lot_stored.specs.Rows.{marked}
use Rattle.lot_stored.specs.StandFor.{Left, Stands}
use Rattle.lot_table.specs.Statement.{DiskFailed}
use Rattle.lot_rows.specs.Tables.{Has, HasFirst, Tables}
use Rattle.lot_store.specs.Create.{IsTaken, TellsOf}
use Rattle.lot_store.specs.declared.fault.AdoptFault.{AdoptFault}
use Rattle.lot_store.specs.declared.fault.AdoptFault.TheVariants as adopt
use Rattle.lot_migrate.specs.Fault.{refusal_of}
use Rattle.lot_migrate.specs.First.{StandsFirst}
use Rattle.lot_migrate.specs.Put.{HasNoRoom}
use Rattle.lot_migrate.specs.Read.{CanMigrate, ListsTable, entries_in}
use Rattle.lot_migrate.specs.Rows.{migrated, row_of_opening}
use Rattle.lot_migrate.specs.declared.fault.MigrateFault.{MigrateFault}
use Rattle.lot_migrate.specs.declared.fault.MigrateFault.TheVariants as migrate

-- ---- what becomes of a book

-- the database stands for a book of edition 2 with that place of migration
pub record StandsFrom (place : ℕ) (s : State) (entries : List Entry) : Type 0 where
  pub stands : Stands s entries
  pub placed : stands.stand.place ≡ place

-- the same of what a crash leaves
pub record LeftFrom (place : ℕ) (trees : Trees) (entries : List Entry) : Type 0 where
  pub left : Left trees entries
  pub placed : left.stand.place ≡ place

-- the database has the tables of edition 2: the rows of those of edition 1 but for the edition, the opening numbers of
-- their legs, and as place of migration the number of entries
pub record HasMigrated (tables : Tables) (s : State) : Type 0 where
  pub openings : List LotOpening
  pub lists : ListsTable openings tables
  pub has : Has s (migrated tables (map row_of_opening openings) (entries_in tables))

-- so the eleven tables become, where one row marks their edition
abbrev pub MigratesMarked : State → State → Type 0
MigratesMarked old new = (tables : Tables) (edition : ℤ) → HasFirst old tables
    → tables.book ≡ marked edition ∷ [] → HasMigrated tables new

-- the connection is open, and what it shows is committed
abbrev pub IsCommitted : State → Type 0
IsCommitted s = IsTrue s.is_open × (s.committed ≡ s.now)

-- A database that tells an older edition becomes a book of edition 2, in one commit. Where it
-- stands for a book of edition 1, the same entries stand in edition 2, each of them before the
-- place of migration. Whatever the eleven tables stand for, their rows stay but for the edition.
pub record TakesOver (old new : State) : Type 0 where
  pub stands : (entries : List Entry) → StandsFirst old entries
      → StandsFrom (length entries) new entries
  pub rows : (tables : Tables) → HasFirst old tables → HasMigrated tables new
  pub committed : IsCommitted new

-- the database answers the question for its edition with an older one
abbrev pub IsOlder : State → Type 0
IsOlder s = TellsOf s s (Err adopt.OlderEdition)

-- the database was a book of edition 2 and nothing changed, or an older one that is taken over
abbrev pub Migrates : State → State → Type 0
Migrates old new = (IsTaken old × IsUnchanged old new) ⊎ (IsOlder old × TakesOver old new)

-- of a book of edition 1 a crash leaves the book of edition 2, or what it could leave before
abbrev pub LeavesTakenOver : State → Trees → Type 0
LeavesTakenOver old trees = (entries : List Entry) → StandsFirst old entries → LeftFrom (length entries) trees entries

-- A crash leaves something new only of a database that tells an older edition. Any other one it leaves as before.
abbrev pub LeavesMigrated : State → Trees → Type 0
LeavesMigrated old trees = IsOlder old × LeavesTakenOver old trees

-- ---- why it isn't migrated

-- Why a database of an older edition isn't taken over. It hasn't the tables of edition 1 alone, or their rows are none
-- of a book; or the disk failed, or there is no room. A commit is in doubt only where the disk failed during the call.
abbrev pub NotTakenOver : State → State → MigrateFault → Type 0
NotTakenOver old new migrate.NotABook = (tables : Tables) → ¬ HasFirst old tables
NotTakenOver old new migrate.NewerEdition = ⊥
NotTakenOver old new migrate.Device =
    (tables : Tables) → HasFirst old tables → DiskFailed old new ⊎ HasNoRoom tables old.now.trees
NotTakenOver old new migrate.InDoubt = MoreFaults old.faults new.faults
NotTakenOver old new migrate.Damaged = (tables : Tables) → HasFirst old tables → ¬ CanMigrate tables
NotTakenOver old new migrate.Memory = Unit {0}

-- the database isn't taken up as a book, and not since it is of an older edition
pub record IsUnadopted (old new : State) (fault : MigrateFault) : Type 0 where
  pub why : AdoptFault
  pub same : refusal_of why ≡ Some fault
  pub tells : TellsOf old new (Err why)

abbrev pub NotMigrated : State → State → MigrateFault → Type 0
NotMigrated old new fault = IsUnadopted old new fault ⊎ (IsOlder old × NotTakenOver old new fault)

-- of a book of edition 1 only the disk, its size, or memory is a cause
abbrev pub IsOfFirst : MigrateFault → Type 0
IsOfFirst fault =
    (fault ≢ migrate.NotABook) × (fault ≢ migrate.NewerEdition) × (fault ≢ migrate.Damaged)

-- of a book of edition 2 only the disk or memory, which the question for its edition found
abbrev pub IsOfSecond : State → State → MigrateFault → Type 0
IsOfSecond old new fault =
    ((fault ≡ migrate.Device) × DiskFailed old new) ⊎ (fault ≡ migrate.Memory)
