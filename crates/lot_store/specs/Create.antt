-- Making the tables of a book, and taking up a book.
use Rattle.std.specs.Prelude.{◌≡◌, ◌≢◌, ◌⊎◌, ◌<ℤ◌, ◌≤ℤ◌, ℕ, ℤ, false, IsTrue, List, [], ◌∷◌, codes, map, pos, Err, Ok, Result}
use Rattle.sqlite.specs.Order.{Row}
use Rattle.sqlite.specs.State.{Shown, State}
use Rattle.sqlite.specs.Tree.{Trees}
use Rattle.sqlite.specs.declared.error.Error.{Error}
use Rattle.sqlite.specs.declared.error.Error.TheVariants.{SqliteFailure}
use Rattle.sqlite.specs.declared.error.ErrorCode.TheVariants as code
use Rattle.sqlite_disk.specs.Disk.{MoreFaults}
use Rattle.lot_stored.specs.Rows.{current_edition, marked, migration_row, this_edition}
use Rattle.lot_stored.specs.StandFor.{Left}
use Rattle.lot_rows.specs.Book.{book_cells}
use Rattle.lot_rows.specs.Tables.{Has, Tables, no_rows_yet}
use Rattle.lot_rows.specs.declared.book.BookRow.{BookRow}
use Rattle.lot_table.specs.Shape.{schema_of}
use Rattle.lot_table.specs.Statement.{DiskFailed, Refused}
use Rattle.lot_table.specs.declared.fault.Fault as table
use Rattle.lot_table.specs.declared.make.MakeFault as make
use Rattle.lot_store.specs.declared.fault.AdoptFault.{AdoptFault}
use Rattle.lot_store.specs.declared.fault.AdoptFault.TheVariants as adopt
use Rattle.lot_store.specs.declared.fault.CreateFault.{CreateFault}
use Rattle.lot_store.specs.declared.fault.CreateFault.TheVariants as create

-- ---- a connection that is handed back

-- it is outside a transaction, and while it is open every row is as it was
pub record IsHandedBack (old new : State) : Type 0 where
  pub outside : new.in_transaction ≡ false
  pub was_open : IsTrue new.is_open → IsTrue old.is_open
  pub rows : IsTrue new.is_open → (new.now ≡ old.now) × (new.committed ≡ old.committed)

-- ---- making

-- a statement that is refused for another cause than memory, disk or size: no book can be made there
abbrev pub create_fault_of : table.Fault → CreateFault
create_fault_of table.TheVariants.Device = create.Device
create_fault_of table.TheVariants.Damaged = create.NotABook
create_fault_of table.TheVariants.Memory = create.Memory

abbrev pub make_fault_of : make.MakeFault → CreateFault
make_fault_of make.TheVariants.Taken = create.NotABook
make_fault_of (make.TheVariants.Failed fault) = create_fault_of fault

-- of the commit: but for memory nobody knows whether it was made
abbrev pub create_commit_fault : Error → CreateFault
create_commit_fault (SqliteFailure code.OutOfMemory) = create.Memory
create_commit_fault _ = create.InDoubt

abbrev pub create_outcome : {A : Type 0} → Result A Error → Result A CreateFault
create_outcome (Ok done) = Ok done
create_outcome (Err error) = Err (create_commit_fault error)

-- What a fault says of the database in which no book is made. An open one without tables is never no book, and in it the
-- device refuses only where the disk failed. A commit is in doubt only where the disk failed during the call.
abbrev pub RefusedFor : State → State → CreateFault → Type 0
RefusedFor old new create.NotABook = IsTrue old.is_open → old.now.schema ≢ schema_of []
RefusedFor old new create.Device = old.now.schema ≡ schema_of [] → DiskFailed old new
RefusedFor old new create.InDoubt = MoreFaults old.faults new.faults
RefusedFor old new create.Memory = Unit {0}

-- what a crash may leave anew: a book without entries, in a database that had no tables
abbrev pub LeavesNew : State → Trees → Type 0
LeavesNew old trees = (old.now.schema ≡ schema_of []) × Left trees []

-- the faults after which a book may stand all the same: nobody knows, or memory refused the commit
abbrev pub MayBeMade : CreateFault → Type 0
MayBeMade create.InDoubt = Unit {0}
MayBeMade create.Memory = Unit {0}
MayBeMade create.NotABook = ⊥
MayBeMade create.Device = ⊥

-- what a crash may leave anew once a call has failed
abbrev pub LeavesAfter : CreateFault → State → Trees → Type 0
LeavesAfter fault old trees = MayBeMade fault × LeavesNew old trees

-- the tables of a book without entries, whose place of migration is 0
abbrev pub no_entries_yet : Tables
no_entries_yet = record no_rows_yet { book = this_edition ∷ []; migration = migration_row 0 ∷ [] }

abbrev pub StandsForNone : State → Type 0
StandsForNone s = Has s no_entries_yet

-- ---- taking up

-- the columns of all rows of the table `book`: the one row that marks a book of that edition
abbrev pub AreMarked : ℤ → List Row → Type 0
AreMarked edition rows = rows ≡ book_cells (marked edition) ∷ []

abbrev pub adopt_fault_of : table.Fault → AdoptFault
adopt_fault_of table.TheVariants.Device = adopt.Device
adopt_fault_of table.TheVariants.Damaged = adopt.NotABook
adopt_fault_of table.TheVariants.Memory = adopt.Memory

-- what is told of these columns: this program's edition, an older one, a newer one, or that they are no book's
abbrev pub TellsColumns : List Row → Result (Unit {0}) AdoptFault → Type 0
TellsColumns rows (Ok done) = AreMarked current_edition rows
TellsColumns rows (Err adopt.OlderEdition) =
    (edition : ℤ) × (pos 1 ≤ℤ edition) × (edition <ℤ current_edition) × AreMarked edition rows
TellsColumns rows (Err adopt.NewerEdition) = (edition : ℤ) × (current_edition <ℤ edition) × AreMarked edition rows
TellsColumns rows (Err adopt.NotABook) = (edition : ℤ) → pos 1 ≤ℤ edition → ¬ AreMarked edition rows
TellsColumns rows (Err adopt.Device) = ⊥
TellsColumns rows (Err adopt.Memory) = Unit {0}

-- the same of the rows of the table
abbrev pub TellsBook : List BookRow → Result (Unit {0}) AdoptFault → Type 0
TellsBook rows = TellsColumns (map book_cells rows)

-- the question for these columns
abbrev pub marks_text : List ℕ
marks_text = codes "SELECT mark, edition FROM book ORDER BY mark"

-- why the question isn't answered: the database refuses it, as one without such a table does, or the disk failed
abbrev pub IsUnanswered : State → State → Result (Unit {0}) AdoptFault → Type 0
IsUnanswered old new (Ok done) = ⊥
IsUnanswered old new (Err adopt.OlderEdition) = ⊥
IsUnanswered old new (Err adopt.NewerEdition) = ⊥
IsUnanswered old new (Err adopt.NotABook) = Refused marks_text [] old new table.TheVariants.Damaged
IsUnanswered old new (Err adopt.Device) = DiskFailed old new
IsUnanswered old new (Err adopt.Memory) = Unit {0}

-- A database is marked as a book of this edition: it answers the question with the one row that marks such a book. The
-- question changes nothing.
abbrev pub IsMarked : State → Type 0
IsMarked s = (rows : List Row) × Shown marks_text [] s s rows × AreMarked current_edition rows

-- A database is taken up as a book: it is open, and is marked as a book of this edition. Where it has the tables of a book,
-- the table `book` tells so.
pub record IsTaken (s : State) : Type 0 where
  pub opened : IsTrue s.is_open
  pub marked : IsMarked s
  pub told : (tables : Tables) → Has s tables → TellsBook tables.book (Ok tt)

-- what is told of any database, whatever its tables are
abbrev pub TellsOf : State → State → Result (Unit {0}) AdoptFault → Type 0
TellsOf old new result = ((rows : List Row) × Shown marks_text [] old new rows × TellsColumns rows result) ⊎ IsUnanswered old new result
