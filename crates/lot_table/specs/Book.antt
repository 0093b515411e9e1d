-- A book as the lists of all its tables, and what a statement makes of them.
use Rattle.std.specs.Prelude.{◌≡◌, ◌⊎◌, ℕ, ◌==◌, true, if◌then◌else◌, List}
use Rattle.std.specs.List.{AllByRecursion}
use Rattle.sqlite.specs.Order.{Row}
use Rattle.sqlite.specs.Schema.{Schema}
use Rattle.sqlite.specs.State.{State, Shows, IsUnchanged, IsRolledBack}
use Rattle.sqlite.specs.Table.{Table}
use Rattle.sqlite.specs.Tree.{Trees}
use Rattle.sqlite_catalog.specs.Listing.{IsSound}
use Rattle.lot_table.specs.Rows.{HasRows}

-- ---- the tables of a book

-- one table: the number of its tree, how many columns its key has, and its rows
pub record Slot : Type 0 where
  pub tree : ℕ
  pub width : ℕ
  pub rows : List Row

abbrev pub IsHeld : Trees → Slot → Type 0
IsHeld trees slot = HasRows slot.width (trees slot.tree) slot.rows

abbrev pub AreHeld : Trees → List Slot → Type 0
AreHeld trees = AllByRecursion (IsHeld trees)

-- the slot of this tree has these rows, and any other is as it was
abbrev pub with_rows : ℕ → ℕ → List Row → Slot → Slot
with_rows tree width rows slot = if slot.tree == tree then record { tree = tree; width = width; rows = rows } else slot

-- how books of this kind lie in a file
pub record Layout (B : Type 0) : Type 0 where
  pub schema : Schema
  pub slots : B → List Slot

-- One table of books of this kind: its declaration, its rows as columns, how many of them are its key, and its list in a
-- book.
pub record BookTable (B X : Type 0) : Type 0 where
  pub table : Table
  pub encode : X → Row
  pub width : ℕ
  pub rows : B → List X
  pub with_rows : List X → B → B

-- a file of these trees is sound, has the tables of a book and no others, and they have the lists of this book
pub record Holds {B : Type 0} (layout : Layout B) (trees : Trees) (book : B) : Type 0 where
  pub sound : IsSound layout.schema trees
  pub held : AreHeld trees (layout.slots book)

-- the database has the tables of a book and no others
abbrev pub IsBook : {B : Type 0} → Layout B → State → Type 0
IsBook layout s = s.now.schema ≡ layout.schema

-- ---- what a statement does

-- Where the database has the lists of a book that fits, it has afterwards those that `f` makes of them: what `f` leaves
-- alone is as it was.
pub record Turns {B : Type 0} (layout : Layout B) (fits : B → Type 0) (f : B → B) (old new : State) : Type 0 where
  pub book : IsBook layout old → IsBook layout new
  pub lists : IsBook layout old → (book : B) → Holds layout old.now.trees book → fits book → Holds layout new.now.trees (f book)

-- every book fits
abbrev pub always : {B : Type 0} → B → Type 0
always book = Unit {0}

-- the database has the lists of this book
abbrev pub Has : {B : Type 0} → Layout B → State → B → Type 0
Has layout s book = IsBook layout s × Holds layout s.now.trees book

-- the transaction is open still, and the last commit stands
abbrev pub StaysInside : State → State → Type 0
StaysInside old new = Shows old new new.now old.committed true

-- after a failure: nothing changed, or the transaction is undone
abbrev pub IsUndone : State → State → Type 0
IsUndone old new = IsUnchanged old new ⊎ IsRolledBack old new
