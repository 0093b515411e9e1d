-- What migration puts, in its open transaction.
use Rattle.std.specs.Prelude.{◌≡◌, ◌⊎◌, ℕ, ◌+◌, List, ◌∷◌, ◌++◌, length, map, IsTrue, None, OnOk, Result, Err}
use Rattle.sqlite.specs.State.{HasCleanDisk, KeepsCommit, State, Survives}
use Rattle.sqlite.specs.Tree.{Trees}
use Rattle.sqlite_catalog.specs.Change.{KeepsRows}
use Rattle.lot_migrate.specs.declared.opening_numbers.LotOpening.{LotOpening}
use Rattle.lot_stored.specs.Rows.{migration_row, this_edition}
use Rattle.lot_table.specs.Book.{BookTable, Holds, Turns, always}
use Rattle.lot_table.specs.Rowids.{EachStaysInReach}
use Rattle.lot_table.specs.Shape.{schema_of}
use Rattle.lot_table.specs.Statement.{DiskFailed}
use Rattle.lot_table.specs.declared.fault.Fault.{Fault}
use Rattle.lot_table.specs.declared.fault.Fault.TheVariants.{Damaged, Device}
use Rattle.lot_rows.specs.Tables.{Has, Tables, book_table, first_shapes, layout, migration_table, opening_table}
use Rattle.lot_write.specs.Call.{GivesRowids, LacksRoomIn}
use Rattle.lot_write.specs.Write.{with_put, written_all}
use Rattle.lot_write.specs.declared.write.Write.{Write}
use Rattle.lot_write.specs.declared.write.Write.TheVariants.{Opening}
use Rattle.lot_migrate.specs.Read.{ListsTable, entries_in}
use Rattle.lot_migrate.specs.Rows.{bare, row_of_opening}

-- the writes of the opening numbers
abbrev pub opening_writes : List LotOpening → List Write
opening_writes = map (λ (it : LotOpening). Opening (row_of_opening it))

-- the place of migration and the edition are put
abbrev pub with_marks : ℕ → Tables → Tables
with_marks place tables =
    with_put book_table this_edition (with_put migration_table (migration_row place) tables)

-- the opening numbers before them
abbrev pub with_all : List LotOpening → ℕ → Tables → Tables
with_all openings place tables = with_marks place (written_all (opening_writes openings) tables)

-- A database that has these tables has no room for this row, once so many changes were made, beginning with these trees.
pub record IsFullFor {X : Type 0} (t : BookTable Tables X) (x : X) (tables : Tables) (before : Trees)
    (count : ℕ) : Type 0 where
  pub trees : Trees
  pub holds : Holds layout trees tables
  pub reach : EachStaysInReach count layout.schema before trees
  pub lacks : LacksRoomIn t x trees

-- it has none for one of the opening numbers, once those before it are put
pub record IsFullForOpenings (openings : List LotOpening) (tables : Tables) (before : Trees)
    : Type 0 where
  pub done : List LotOpening
  pub next : LotOpening
  pub left : List LotOpening
  pub split : openings ≡ done ++ next ∷ left
  pub lacks : IsFullFor opening_table (row_of_opening next)
      (written_all (opening_writes done) tables) before (length done)

-- or for the place of migration, or for the edition behind it
abbrev pub IsFullForMarks : ℕ → Tables → Trees → ℕ → Type 0
IsFullForMarks place tables before count =
    IsFullFor migration_table (migration_row place) tables before count
    ⊎ IsFullFor book_table this_edition (with_put migration_table (migration_row place) tables) before (1 + count)

abbrev pub IsFullForAll : List LotOpening → ℕ → Tables → Trees → Type 0
IsFullForAll openings place tables before =
    IsFullForOpenings openings tables before
    ⊎ IsFullForMarks place (written_all (opening_writes openings) tables) before (length openings)

-- The database has no room for a row that migration makes of these tables of edition 1, once the
-- two tables are added and the rows before it are put. The rows of the eleven tables have kept
-- their rowids then, and the two have no rows.
pub record HasNoRoom (tables : Tables) (before : Trees) : Type 0 where
  pub openings : List LotOpening
  pub lists : ListsTable openings tables
  pub begun : Trees
  pub kept : KeepsRows (schema_of first_shapes).tables before begun
  pub holds : Holds layout begun (bare tables)
  pub lacks : IsFullForAll openings (entries_in tables) (bare tables) begun

-- The tables become what `f` makes of them by so many changes, in the open transaction. Without a
-- limit on steps no damage is found. The device fails only where the disk failed, or where there is
-- no room, beginning with the trees before.
pub record PutsRows {A : Type 0} (f : Tables → Tables) (count : ℕ)
    (NoRoom : Tables → Trees → Type 0) (old new : State) (result : Result A Fault) : Type 0 where
  pub inside : HasCleanDisk new → OnOk result (IsTrue new.in_transaction)
  pub turns : HasCleanDisk new → OnOk result (Turns layout always f old new)
  pub rowids : HasCleanDisk new → OnOk result (GivesRowids count old new)
  pub damaged : HasCleanDisk new → result ≡ Err Damaged → old.step_limit ≡ None
      → (tables : Tables) → ¬ Has old tables
  pub device : HasCleanDisk new → result ≡ Err Device → (tables : Tables) → Has old tables
      → DiskFailed old new ⊎ NoRoom tables old.now.trees
  pub kept : HasCleanDisk new → KeepsCommit old new
  pub crash : Survives old new (λ _. ⊥)
