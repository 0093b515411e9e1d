-- Walks over the rows of a book in a file: what each call gives, which fault ends a walk, and what that leaves (docs/RULES.md,
-- All codes).
use Rattle.std.specs.Prelude.{◌≡◌, ◌≢◌, ◌↔◌, Bool, true, false, IsTrue, [], ◌∷◌, ◌++◌, List, Option, Some, None, Result, Ok, Err, IfOk, IfSome, OnOk, OnErr, IsErr}
use Rattle.sqlite.specs.Held.{state}
use Rattle.sqlite.specs.State.{HasCleanDisk, Survives}
use Rattle.sqlite.specs.Store.{Ghosts}
use Rattle.lot_book.specs.Facts.{Entry}
use Rattle.lot_stored.specs.StandFor.{Stands}
use Rattle.lot_page.specs.Cursor.{Stays}
use Rattle.lot_rows.specs.Tables.{Has, Tables}
use Rattle.lot_table.specs.Statement.{DiskFailed}
use Rattle.lot_store.specs.Step.{LeavesTables, condition_from}
use Rattle.lot_walk.specs.Step.{IsPrefix}
use Rattle.lot_store.specs.declared.book.Condition.{Condition}
use Rattle.lot_store.specs.declared.book.Condition.TheVariants.{NeedsReopen as MustReopen}
use Rattle.lot_store.specs.declared.fault.StoreFault.TheVariants.{Damaged, Device, InDoubt, NeedsReopen}
use Rattle.lot_store.specs.declared.walk.Stage.{Stage}
use Rattle.lot_store.specs.declared.walk.Stage.TheVariants.{Going, Complete, Ended}
use Rattle.lot_store.specs.declared.walk.Walk.{Walk}
use Rattle.lot_store.specs.declared.walk.WalkFault.{WalkFault}
use Rattle.lot_store.specs.declared.walk.WalkFault.TheVariants as fault

-- ---- how far a walk is

-- after what it read: a fault ends it, and none more completes it
abbrev pub stage_after : {Row F : Type 0} → Result (Option Row) F → Stage
stage_after (Ok (Some row)) = Going
stage_after (Ok None) = Complete
stage_after (Err fault) = Ended

-- ---- the stages of a walk

abbrev pub is_at_end : Stage → Bool
is_at_end Going = false
is_at_end Complete = true
is_at_end Ended = false

abbrev pub is_at_fault : Stage → Bool
is_at_fault Going = false
is_at_fault Complete = false
is_at_fault Ended = true

-- the condition of a book after a call: a failure of the device, and nothing else, makes it need reopening
abbrev pub condition_of : {A : Type 0} → Condition → Result A WalkFault → Condition
condition_of before (Ok found) = before
condition_of before (Err fault.Ended) = before
condition_of before (Err (fault.Failed cause)) = condition_from {A = Unit {0}} before (Err cause)

-- its last row was given, and it was asked for one more
abbrev pub is_complete : {S Place : Type 0} {g : Ghosts S} → Walk S Place g → Bool
is_complete walk = is_at_end walk.stage

-- it ended with a fault
abbrev pub has_ended : {S Place : Type 0} {g : Ghosts S} → Walk S Place g → Bool
has_ended walk = is_at_fault walk.stage

-- ---- what it gives

-- A walk over the rows of the book of these entries has given these, and goes on. They are a prefix of all that were asked
-- for.
pub record HasGiven {S Place Asked Shown : Type 0} (g : Ghosts S) (AreAll : Asked → List Entry → List Shown → Type 0)
    (IsBehind : Place → Tables → Asked → List Entry → List Shown → Type 0) (walk : Walk S Place g) (asked : Asked) (entries : List Entry) (given : List Shown) : Type 0 where
  pub stands : Stands (state g walk.book.now.conn) entries
  pub prefix : IsPrefix AreAll asked entries given
  pub goes_on : walk.stage ≡ Going
  pub behind : IsBehind walk.place stands.tables asked entries given

module _ {S Place Row Asked Shown : Type 0} (g : Ghosts S) (shown : Row → Shown) (IsGood : Row → Type 0) (AreAll : Asked → List Entry → List Shown → Type 0)
    (IsBehind : Place → Tables → Asked → List Entry → List Shown → Type 0) where
  -- a row is the next one; with none, those that were given are all
  abbrev pub Gives : Walk S Place g → Asked → List Entry → List Shown → Option Row → Type 0
  Gives walk asked entries given (Some row) = HasGiven g AreAll IsBehind walk asked entries (given ++ shown row ∷ [])
  Gives walk asked entries given None = AreAll asked entries given

  -- what a call comes to
  pub record Walks (old new : Walk S Place g) (result : Result (Option Row) WalkFault) : Type 0 where
    pub gives : HasCleanDisk (state g new.book.now.conn) → IfOk result (λ found. (asked : Asked) (entries : List Entry) (given : List Shown)
        → HasGiven g AreAll IsBehind old asked entries given → Gives new asked entries given found)
    pub good : IfOk result (λ found. IfSome found IsGood)
    -- past the last row there is none, and after a fault the walk has ended
    pub complete : IsTrue (is_complete old) → result ≡ Ok None
    pub completes : result ≡ Ok None ↔ IsTrue (is_complete new)
    pub ended : result ≡ Err fault.Ended ↔ IsTrue (has_ended old)
    pub ends : IsErr result ↔ IsTrue (has_ended new)
    -- a book that needs reopening gives no row, and only a failure of the device makes it need that
    pub reopen : result ≡ Err (fault.Failed NeedsReopen) ↔ ((old.stage ≡ Going) × (old.book.now.condition ≡ MustReopen))
    pub condition : new.book.now.condition ≡ condition_of old.book.now.condition result
    pub failed : HasCleanDisk (state g new.book.now.conn) → result ≡ Err (fault.Failed Device)
        → DiskFailed (state g old.book.now.conn) (state g new.book.now.conn)
    -- damage is found only where the tables stand for no book
    pub damaged : HasCleanDisk (state g new.book.now.conn) → result ≡ Err (fault.Failed Damaged)
        → (asked : Asked) (entries : List Entry) (given : List Shown) → ¬ HasGiven g AreAll IsBehind old asked entries given
    pub sure : result ≢ Err (fault.Failed InDoubt)
    -- no call changes anything
    pub same : HasCleanDisk (state g new.book.now.conn) → OnOk result (Stays (state g old.book.now.conn) (state g new.book.now.conn))
    pub left : HasCleanDisk (state g new.book.now.conn) → OnErr result (LeavesTables (state g old.book.now.conn) (state g new.book.now.conn))
    pub crash : Survives (state g old.book.now.conn) (state g new.book.now.conn) (λ _. ⊥)

-- ---- the rows of tables that may stand for no book

-- a walk over the rows of these tables has given these, and goes on
pub record HasGivenRows {S Place Asked Shown : Type 0} (g : Ghosts S) (IsBehindRows : Place → Tables → Asked → List Shown → Type 0)
    (walk : Walk S Place g) (asked : Asked) (tables : Tables) (given : List Shown) : Type 0 where
  pub has : Has (state g walk.book.now.conn) tables
  pub goes_on : walk.stage ≡ Going
  pub behind : IsBehindRows walk.place tables asked given

module _ {S Place Row Asked Shown : Type 0} (g : Ghosts S) (shown : Row → Shown) (AreAllRows : Asked → Tables → List Shown → Type 0)
    (IsBehindRows : Place → Tables → Asked → List Shown → Type 0) where
  -- A row is the next one. With none, those that were given are all rows of the tables, so that a walk never ends at a damaged
  -- row as if it were complete.
  abbrev pub GivesRows : Walk S Place g → Asked → Tables → List Shown → Option Row → Type 0
  GivesRows walk asked tables given (Some row) = HasGivenRows g IsBehindRows walk asked tables (given ++ shown row ∷ [])
  GivesRows walk asked tables given None = AreAllRows asked tables given

  -- what a call gives of them
  abbrev pub WalksOverRows : Walk S Place g → Walk S Place g → Result (Option Row) WalkFault → Type 0
  WalksOverRows old new result =
      HasCleanDisk (state g new.book.now.conn) → IfOk result (λ found. (asked : Asked) (tables : Tables) (given : List Shown)
      → HasGivenRows g IsBehindRows old asked tables given → GivesRows new asked tables given found)
