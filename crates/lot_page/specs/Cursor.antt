-- A cursor over the rows of one table of a book, in the order of their key.
use Rattle.std.specs.Prelude.{◌≡◌, ◌⊎◌, ℕ, [], ◌∷◌, ◌++◌, All, IfOk, IfSome, List, map, None, Some, OnErr, OnOk, Option, Result, Err}
use Rattle.std.specs.declared.cmp.Ordering.TheVariants.{Less}
use Rattle.sqlite.specs.Order.{Row}
use Rattle.sqlite.specs.State.{HasCleanDisk, IsRolledBack, State, Survives}
use Rattle.sqlite.specs.Tree.{IsAscending}
use Rattle.lot_rows.specs.Tables.{Has, Tables}
use Rattle.lot_table.specs.Rows.{key_order}
use Rattle.lot_table.specs.Statement.{DiskFailed}
use Rattle.lot_table.specs.declared.fault.Fault.{Fault}
use Rattle.lot_table.specs.declared.fault.Fault.TheVariants.{Damaged, Device}
use Rattle.lot_page.specs.Page.{behind}

-- ---- where a cursor stands

-- the rows rise by so many columns, no two the same
abbrev pub Rises : ℕ → List Row → Type 0
Rises width = IsAscending (λ a b. key_order width a b ≡ Less)

pub record Place : Type 0 where
  -- how many columns the key has
  pub width : ℕ
  -- the next rows, as far as they are read
  pub ahead : List Row
  -- the last row given, where none is read ahead
  pub last : Option Row

-- the rows given begin the rows of the table, and the others come next; rows are told by their columns
pub record Follows (given rows : List Row) (place : Place) : Type 0 where
  pub others : List Row
  pub whole : given ++ others ≡ rows
  pub unread : List Row
  pub read : place.ahead ++ unread ≡ others
  pub last : place.ahead ≡ [] → others ≡ behind place.width place.last rows

module _ {X : Type 0} (encode : X → Row) where
  -- the cursor has given these rows, which begin the rows of the table, and goes on behind them
  abbrev pub IsBehind : List X → List X → Place → Type 0
  IsBehind given rows = Follows (map encode given) (map encode rows)

  -- with one more it is behind that one; with none it has given all
  abbrev pub Gives : List X → List X → Place → Option X → Type 0
  Gives given rows place (Some row) = IsBehind (given ++ row ∷ []) rows place
  Gives given rows place None = map encode given ≡ map encode rows

-- ---- a step

-- the connection shows what it showed
pub record Stays (old new : State) : Type 0 where
  pub now : new.now ≡ old.now
  pub committed : new.committed ≡ old.committed
  pub mode : new.in_transaction ≡ old.in_transaction
  pub is_open : new.is_open ≡ old.is_open

-- the cursor has the next row ready, where there is one
pub record Refills {X : Type 0} (encode : X → Row) (rows : Tables → List X) (before after : Place) (old new : State) (result : Result (Unit {0}) Fault) : Type 0 where
  pub filled : HasCleanDisk new → OnOk result ((tables : Tables) → Has old tables → (given : List X) → IsBehind encode given (rows tables) before
      → IsBehind encode given (rows tables) after × (after.ahead ≡ [] → map encode given ≡ map encode (rows tables)))
  pub left : OnErr result (after ≡ before)
  pub same : HasCleanDisk new → OnOk result (Stays old new)
  pub damaged : HasCleanDisk new → result ≡ Err Damaged → old.step_limit ≡ None → (tables : Tables) → ¬ Has old tables
  pub device : HasCleanDisk new → result ≡ Err Device → DiskFailed old new
  pub undone : HasCleanDisk new → OnErr result (Stays old new ⊎ IsRolledBack old new)
  pub crash : Survives old new (λ _. ⊥)

-- The cursor gives the next row of a table, or none past the last.
pub record Steps {X : Type 0} (encode : X → Row) (IsGood : X → Type 0) (rows : Tables → List X) (before after : Place) (old new : State) (result : Result (Option X) Fault) : Type 0 where
  pub gives : HasCleanDisk new
      → IfOk result (λ found. (tables : Tables) → Has old tables → (given : List X) → IsBehind encode given (rows tables) before → Gives encode given (rows tables) after found)
  pub good : IfOk result (λ found. IfSome found IsGood)
  -- an error leaves the cursor behind the same rows
  pub kept : HasCleanDisk new
      → OnErr result ((tables : Tables) → Has old tables → (given : List X) → IsBehind encode given (rows tables) before → IsBehind encode given (rows tables) after)
  pub same : HasCleanDisk new → OnOk result (Stays old new)
  -- without a limit on steps damage is found only where not all rows of the table are those that a book can have
  pub damaged : HasCleanDisk new → result ≡ Err Damaged → old.step_limit ≡ None
      → (tables : Tables) → Has old tables → (given : List X) → IsBehind encode given (rows tables) before → ¬ All IsGood (rows tables)
  pub device : HasCleanDisk new → result ≡ Err Device → DiskFailed old new
  pub undone : HasCleanDisk new → OnErr result (Stays old new ⊎ IsRolledBack old new)
  pub crash : Survives old new (λ _. ⊥)
