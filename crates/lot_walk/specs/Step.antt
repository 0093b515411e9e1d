-- One step of a walk over the rows of a book in a file, from a place among them. A place borrows nothing.
use Rattle.std.specs.Prelude.{◌≡◌, ◌⊎◌, false, [], ◌∷◌, ◌++◌, List, Option, Some, None, Result, Err, IfOk, IfSome, IsTrue, OnOk}
use Rattle.sqlite.specs.State.{HasCleanDisk, State, Survives}
use Rattle.lot_book.specs.Book.{IsBook}
use Rattle.lot_book.specs.Facts.{Entry}
use Rattle.lot_stored.specs.StandFor.{StandFor}
use Rattle.lot_page.specs.Cursor.{Stays}
use Rattle.lot_rows.specs.Tables.{Has, Tables}
use Rattle.lot_table.specs.Statement.{DiskFailed}

-- after a failure: while the connection is open the tables are as they were, or as the last commit left them, which stands
pub record StaysOrGoesBack (old new : State) : Type 0 where
  pub mode : old.in_transaction ≡ false → new.in_transaction ≡ false
  pub was_open : IsTrue new.is_open → IsTrue old.is_open
  pub now : IsTrue new.is_open → (new.now ≡ old.now) ⊎ (new.now ≡ old.committed)
  pub committed : IsTrue new.is_open → new.committed ≡ old.committed

-- these begin the rows of a book
abbrev pub IsPrefix : {Asked Shown : Type 0} → (Asked → List Entry → List Shown → Type 0) → Asked → List Entry → List Shown → Type 0
IsPrefix {Shown} AreAll asked entries given = (rest : List Shown) × AreAll asked entries (given ++ rest)

-- a place before the first row, of each book
abbrev pub HasGivenNone : {Place Asked Shown : Type 0} → (Asked → List Entry → List Shown → Type 0) → (Place → Tables → Asked → List Entry → List Shown → Type 0) → Place → Asked → Type 0
HasGivenNone AreAll IsBehind place asked =
    (tables : Tables) (entries : List Entry) → StandFor tables entries → IsPrefix AreAll asked entries [] × IsBehind place tables asked entries []

-- the same of tables whose rows may be those of no book
abbrev pub HasGivenNoRows : {Place Asked Shown : Type 0} → (Place → Tables → Asked → List Shown → Type 0) → Place → Asked → Type 0
HasGivenNoRows IsBehindRows place asked = (tables : Tables) → IsBehindRows place tables asked []

-- What is told of a row is `shown`, and it is good whatever the tables are. `AreAll` says which rows those of a book are,
-- for what was asked, and `IsBehind` which of them a place among its tables has given.
module _ {Place Row Asked Shown : Type 0} (shown : Row → Shown) (IsGood : Row → Type 0) (AreAll : Asked → List Entry → List Shown → Type 0)
    (IsBehind : Place → Tables → Asked → List Entry → List Shown → Type 0) where
  -- a row is the next one; with none, those that were given are all
  abbrev pub StepGives : Place → Tables → Asked → List Entry → List Shown → Option Row → Type 0
  StepGives place tables asked entries given (Some row) =
      IsBehind place tables asked entries (given ++ shown row ∷ []) × IsPrefix AreAll asked entries (given ++ shown row ∷ [])
  StepGives place tables asked entries given None = AreAll asked entries given

  -- what a step comes to, with faults of some kind, two of which are those of damage and of the device
  pub record Steps {F : Type 0} (damage device : F) (before after : Place) (old new : State) (result : Result (Option Row) F) : Type 0 where
    pub gives : HasCleanDisk new → IfOk result (λ found. (tables : Tables) (entries : List Entry) → Has old tables → IsBook entries → StandFor tables entries
        → (asked : Asked) (given : List Shown) → IsBehind before tables asked entries given → StepGives after tables asked entries given found)
    pub good : IfOk result (λ found. IfSome found IsGood)
    pub same : HasCleanDisk new → OnOk result (Stays old new)
    -- without a limit on steps damage is found only where the tables stand for no book
    pub damaged : HasCleanDisk new → result ≡ Err damage → old.step_limit ≡ None → (tables : Tables) (entries : List Entry) → Has old tables → IsBook entries → StandFor tables entries
        → (asked : Asked) (given : List Shown) → ¬ IsBehind before tables asked entries given
    pub failed : HasCleanDisk new → result ≡ Err device → DiskFailed old new
    pub crash : Survives old new (λ _. ⊥)

-- The same in tables whose rows may be those of no book. `AreAllRows` says which rows those of tables are, for what was asked,
-- and `IsBehindRows` which of them a place has given.
module _ {Place Row Asked Shown : Type 0} (shown : Row → Shown) (AreAllRows : Asked → Tables → List Shown → Type 0)
    (IsBehindRows : Place → Tables → Asked → List Shown → Type 0) where
  -- a row is the next one; with none, those that were given are all: damage is no end
  abbrev pub GivesOfRows : Place → Tables → Asked → List Shown → Option Row → Type 0
  GivesOfRows place tables asked given (Some row) = IsBehindRows place tables asked (given ++ shown row ∷ [])
  GivesOfRows place tables asked given None = AreAllRows asked tables given

  -- what a step gives of them
  abbrev pub StepsOverRows : {F : Type 0} → Place → Place → State → State → Result (Option Row) F → Type 0
  StepsOverRows before after old new result =
      HasCleanDisk new → IfOk result (λ found. (tables : Tables) → Has old tables → (asked : Asked) (given : List Shown)
      → IsBehindRows before tables asked given → GivesOfRows after tables asked given found)
