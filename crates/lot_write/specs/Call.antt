-- What writing says: of the tables, and of each way to fail.
use Rattle.std.specs.Prelude.{◌≡◌, ◌⊎◌, ℕ, IsTrue, List, ◌∷◌, ◌++◌, length, None, OnErr, OnOk, Result, Err}
use Rattle.sqlite.specs.State.{HasCleanDisk, KeepsCommit, State, Survives}
use Rattle.sqlite.specs.Tree.{Trees}
use Rattle.lot_table.specs.Book.{BookTable, Holds, IsUndone, StaysInside, Turns, always}
use Rattle.lot_table.specs.Call.{LacksRoom, LacksRoomInPlace}
use Rattle.lot_table.specs.Rowids.{EachStaysInReach}
use Rattle.lot_table.specs.Statement.{DiskFailed}
use Rattle.lot_table.specs.declared.fault.Fault.TheVariants.{Damaged, Device}
use Rattle.lot_table.specs.declared.fault.Fault.{Fault}
use Rattle.lot_rows.specs.Tables.{Has, Tables, layout, account_table, allowed_table, commodity_table, entry_table, head_table, leg_table, lot_table, opening_table, plain_table, price_table, sale_table}
use Rattle.lot_write.specs.Write.{AreFit, Fits, written, written_all}
use Rattle.lot_write.specs.declared.write.Write.{Write}
use Rattle.lot_write.specs.declared.write.Write.TheVariants as write

-- ---- no room

abbrev pub LacksRoomIn : {X : Type 0} → BookTable Tables X → X → Trees → Type 0
LacksRoomIn t x = LacksRoom layout.schema t.table (t.encode x)

-- the database has no room for the row that is put; a row that is deleted needs none
abbrev pub LacksRoomFor : Write → Trees → Type 0
LacksRoomFor (write.Account row) = LacksRoomIn account_table row
LacksRoomFor (write.Allowed row) = LacksRoomIn allowed_table row
LacksRoomFor (write.Commodity row) = LacksRoomIn commodity_table row
LacksRoomFor (write.Price row) = LacksRoomIn price_table row
LacksRoomFor (write.Entry row) = LacksRoomIn entry_table row
LacksRoomFor (write.Leg row) = LacksRoomIn leg_table row
LacksRoomFor (write.Sale row) = LacksRoomIn sale_table row
LacksRoomFor (write.Lot row) = LacksRoomIn lot_table row
LacksRoomFor (write.SetLot row) = LacksRoomInPlace layout lot_table row
LacksRoomFor (write.NoLot account commodity lot) = λ trees. ⊥
LacksRoomFor (write.Opening row) = LacksRoomIn opening_table row
LacksRoomFor (write.NoOpening account commodity lot) = λ trees. ⊥
LacksRoomFor (write.Plain row) = LacksRoomIn plain_table row
LacksRoomFor (write.SetPlain row) = LacksRoomInPlace layout plain_table row
LacksRoomFor (write.NoPlain account commodity) = λ trees. ⊥
LacksRoomFor (write.Head row) = LacksRoomIn head_table row
LacksRoomFor (write.SetHead row) = LacksRoomInPlace layout head_table row

-- The writes before one of them are made, and the database then has no room for that one. They gave no rowid but the next one
-- of a table each. What they made stands while the transaction is open.
pub record Stops (writes : List Write) (tables : Tables) (before : Trees) (new : State) : Type 0 where
  pub made : List Write
  pub next : Write
  pub left : List Write
  pub trees : Trees
  pub split : writes ≡ made ++ next ∷ left
  pub holds : Holds layout trees (written_all made tables)
  pub reach : EachStaysInReach (length made) layout.schema before trees
  pub lacks : LacksRoomFor next trees
  pub stands : IsTrue new.in_transaction → new.now.trees ≡ trees

-- ---- calls

-- in the file of a book each of so many changes gives no rowid but the next one of its table
abbrev pub GivesRowids : ℕ → State → State → Type 0
GivesRowids count old new = (tables : Tables) → Has old tables → EachStaysInReach count layout.schema old.now.trees new.now.trees

-- All tables become what the writes make of them, in the open transaction. Without a limit on steps no damage is found in
-- tables that take them, and the device fails only where the disk failed or the database has no room. The last commit stands,
-- whatever happens.
pub record WritesAll {A : Type 0} (writes : List Write) (old new : State) (result : Result A Fault) : Type 0 where
  pub inside : HasCleanDisk new → OnOk result (IsTrue new.in_transaction)
  pub turns : HasCleanDisk new → OnOk result (Turns layout always (written_all writes) old new)
  pub rowids : HasCleanDisk new → OnOk result (GivesRowids (length writes) old new)
  pub damaged : HasCleanDisk new → result ≡ Err Damaged → old.step_limit ≡ None → (tables : Tables) → AreFit writes tables → ¬ Has old tables
  pub device : HasCleanDisk new → result ≡ Err Device → (tables : Tables) → AreFit writes tables → Has old tables → DiskFailed old new ⊎ Stops writes tables old.now.trees new
  pub kept : HasCleanDisk new → KeepsCommit old new
  pub crash : Survives old new (λ _. ⊥)

-- The same of one write, which after a failure has changed nothing, or the transaction is undone.
pub record WritesOne {A : Type 0} (write : Write) (old new : State) (result : Result A Fault) : Type 0 where
  pub inside : HasCleanDisk new → OnOk result (StaysInside old new)
  pub turns : HasCleanDisk new → OnOk result (Turns layout always (written write) old new)
  pub rowids : HasCleanDisk new → OnOk result (GivesRowids 1 old new)
  pub damaged : HasCleanDisk new → result ≡ Err Damaged → old.step_limit ≡ None → (tables : Tables) → Fits write tables → ¬ Has old tables
  pub device : HasCleanDisk new → result ≡ Err Device → (tables : Tables) → Fits write tables → Has old tables → DiskFailed old new ⊎ LacksRoomFor write old.now.trees
  pub undone : HasCleanDisk new → OnErr result (IsUndone old new)
  pub crash : Survives old new (λ _. ⊥)
