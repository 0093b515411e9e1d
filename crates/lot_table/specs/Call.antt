-- What a call on a book says: of the change or the answer, and of each way to fail.
use Rattle.std.specs.Prelude.{◌≡◌, ◌∷◌, ◌⊎◌, ℕ, ℤ, false, true, All, IfOk, IfSome, List, map, None, OnErr, OnOk, Option, Result, Err, Vec, slice_get}
use Rattle.std.specs.declared.alloc.Global.{Global}
use Rattle.sqlite.specs.Order.{Row}
use Rattle.sqlite.specs.Schema.{Schema}
use Rattle.sqlite.specs.State.{HasCleanDisk, IsUnchanged, Shown, State, Survives}
use Rattle.sqlite.specs.Table.{Table}
use Rattle.sqlite.specs.Tree.{Trees}
use Rattle.sqlite_rules.specs.Edit.{IsOversized, next_rowid}
use Rattle.sqlite_rules.specs.Lists.{Has as HasRow}
use Rattle.sqlite_sql.specs.Ops.{fits_i64}
use Rattle.sqlite_value.specs.declared.value.Value.TheVariants.{Int}
use Rattle.lot_table.specs.Book.{BookTable, Has, IsUndone, Layout, StaysInside, Turns, always}
use Rattle.lot_table.specs.Rowids.{EachStaysInReach}
use Rattle.lot_table.specs.Rows.{has_key, is_there, put_in, set_in, without_key}
use Rattle.lot_table.specs.Statement.{DiskFailed, Ran, Refused, RefusedChange, ShowsDamage}
use Rattle.lot_table.specs.declared.fault.Fault.TheVariants.{Damaged, Device}
use Rattle.lot_table.specs.declared.fault.Fault.{Fault}

-- ---- one statement on any database

-- a change, in a transaction
pub record Runs {A : Type 0} (text : List ℕ) (params : Row) (old new : State) (result : Result A Fault) : Type 0 where
  pub inside : HasCleanDisk new → OnOk result (StaysInside old new)
  pub ran : HasCleanDisk new → OnOk result (Ran text params old new)
  pub refused : HasCleanDisk new → (fault : Fault) → result ≡ Err fault → RefusedChange text params old new fault
  pub undone : HasCleanDisk new → OnErr result (IsUndone old new)
  pub crash : Survives old new (λ _. ⊥)

-- a query, of whose rows the answer says this
pub record Selects {X R : Type 0} (encode : X → Row) (IsGood : X → Type 0) (Says : List X → R → Type 0) (Good : R → Type 0) (text : List ℕ) (params : Row) (old new : State) (result : Result R Fault) : Type 0 where
  pub shown : HasCleanDisk new → IfOk result (λ answer. (rows : List X) × Shown text params old new (map encode rows) × Says rows answer)
  pub good : IfOk result Good
  pub same : HasCleanDisk new → OnOk result (IsUnchanged old new)
  pub damaged : HasCleanDisk new → result ≡ Err Damaged → Refused text params old new Damaged ⊎ ShowsDamage encode IsGood text params old new
  pub device : HasCleanDisk new → result ≡ Err Device → DiskFailed old new
  pub undone : HasCleanDisk new → OnErr result (IsUndone old new)
  pub crash : Survives old new (λ _. ⊥)

-- ---- a change of a book

-- A book becomes what `f` makes of it, and no rowid is given but the next one of a table. In a book that fits the call never
-- finds damage, without a limit on steps, and the device fails it only where the disk failed or the database has no room.
pub record Changes {A B : Type 0} (layout : Layout B) (fits : B → Type 0) (f : B → B) (HasNoRoom : Trees → Type 0) (old new : State) (result : Result A Fault) : Type 0 where
  pub inside : HasCleanDisk new → OnOk result (StaysInside old new)
  pub turns : HasCleanDisk new → OnOk result (Turns layout always f old new)
  pub rowids : HasCleanDisk new
      → OnOk result ((book : B) → Has layout old book → EachStaysInReach 1 layout.schema old.now.trees new.now.trees)
  pub damaged : HasCleanDisk new → result ≡ Err Damaged → old.step_limit ≡ None → (book : B) → fits book → ¬ Has layout old book
  pub device : HasCleanDisk new → result ≡ Err Device → (book : B) → fits book → Has layout old book → DiskFailed old new ⊎ HasNoRoom old.now.trees
  pub undone : HasCleanDisk new → OnErr result (IsUndone old new)
  pub crash : Survives old new (λ _. ⊥)

-- the rowid is above all rowids, or the row, or its entry in an index, is longer than a database takes
abbrev pub IsTooLong : Schema → Table → Row → ℤ → Type 0
IsTooLong schema table row rowid = (fits_i64 rowid ≡ false) ⊎ IsOversized schema table (Int rowid ∷ row)

-- no row more goes in, since the greatest rowid is given, or this one doesn't
abbrev pub LacksRoom : Schema → Table → Row → Trees → Type 0
LacksRoom schema table row trees = IsTooLong schema table row (next_rowid (trees table.tree))

-- the row is put into the list of its table, instead of the row of its key
abbrev pub PutsWhere : {A B X : Type 0} → Layout B → BookTable B X → (B → Type 0) → X → State → State → Result A Fault → Type 0
PutsWhere layout t fits x =
    Changes layout fits (λ book. t.with_rows (put_in t.encode t.width x (t.rows book)) book) (LacksRoom layout.schema t.table (t.encode x))

abbrev pub Puts : {A B X : Type 0} → Layout B → BookTable B X → X → State → State → Result A Fault → Type 0
Puts layout t = PutsWhere layout t always

-- no row of the table has the key of this one
abbrev pub LacksKey : {B X : Type 0} → BookTable B X → X → B → Type 0
LacksKey t x book = is_there t.encode t.width (t.encode x) (t.rows book) ≡ false

-- a row of the table has the key of this one
abbrev pub HasKey : {B X : Type 0} → BookTable B X → X → B → Type 0
HasKey t x book = is_there t.encode t.width (t.encode x) (t.rows book) ≡ true

-- the row doesn't go in at the rowid of the stored row of its key
abbrev pub LacksRoomInPlace : {B X : Type 0} → Layout B → BookTable B X → X → Trees → Type 0
LacksRoomInPlace layout t x trees =
    (rowid : ℤ) × (stored : Row) × HasRow (trees t.table.tree) (Int rowid ∷ stored)
    × (has_key t.width (t.encode x) stored ≡ true) × IsTooLong layout.schema t.table (t.encode x) rowid

-- the row is put into the list, which has none of its key
abbrev pub Adds : {A B X : Type 0} → Layout B → BookTable B X → X → State → State → Result A Fault → Type 0
Adds layout t x = PutsWhere layout t (LacksKey t x) x

-- the row is put in the place of the one of its key; without one nothing changes
abbrev pub Sets : {A B X : Type 0} → Layout B → BookTable B X → X → State → State → Result A Fault → Type 0
Sets layout t x =
    Changes layout always (λ book. t.with_rows (set_in t.encode t.width x (t.rows book)) book) (LacksRoomInPlace layout t x)

-- the row of a key is taken out of the list of its table
abbrev pub Deletes : {A B X : Type 0} → Layout B → BookTable B X → Row → State → State → Result A Fault → Type 0
Deletes layout t key = Changes layout always (λ book. t.with_rows (without_key t.encode t.width key (t.rows book)) book) (λ trees. ⊥)

-- ---- a question to a book

-- The answer is what `Says` tells of the book. Without a limit on steps the call finds damage only where the book isn't sound.
pub record Answers {B R : Type 0} (layout : Layout B) (Says : R → B → Type 0) (Good : R → Type 0) (IsSound : B → Type 0) (old new : State) (result : Result R Fault) : Type 0 where
  pub says : HasCleanDisk new → IfOk result (λ answer. (book : B) → Has layout old book → Says answer book)
  pub good : IfOk result Good
  pub same : HasCleanDisk new → OnOk result (IsUnchanged old new)
  pub damaged : HasCleanDisk new → result ≡ Err Damaged → old.step_limit ≡ None → (book : B) → Has layout old book → ¬ IsSound book
  pub device : HasCleanDisk new → result ≡ Err Device → DiskFailed old new
  pub undone : HasCleanDisk new → OnErr result (IsUndone old new)
  pub crash : Survives old new (λ _. ⊥)

-- these rows of the book, each of which is one that a book can have
abbrev pub Lists : {B X : Type 0} → Layout B → (X → Type 0) → (B → List X) → State → State → Result (Vec X Global) Fault → Type 0
Lists layout good rows = Answers layout (λ found book. found.items ≡ rows book) (λ found. All good found.items) (λ book. All good (rows book))

-- the same, told by the columns of the rows
abbrev pub ListsColumns : {B X : Type 0} → Layout B → (X → Row) → (X → Type 0) → (B → List X) → State → State → Result (Vec X Global) Fault → Type 0
ListsColumns layout encode good rows =
    Answers layout (λ found book. map encode found.items ≡ map encode (rows book)) (λ found. All good found.items) (λ book. All good (rows book))

-- the first of these rows of the book, or none
abbrev pub Finds : {B X : Type 0} → Layout B → (X → Type 0) → (B → List X) → State → State → Result (Option X) Fault → Type 0
Finds layout good rows = Answers layout (λ found book. found ≡ slice_get (rows book) 0) (λ found. IfSome found good) (λ book. All good (rows book))
