-- What a walk has given since it began: of the book that the tables stand for, and of the rows of the tables, whatever those
-- stand for.
use Rattle.std.proofs.Common.{[], ◌∷◌, ◌++◌, List, Some, None, Ok, Err}
use Rattle.sqlite.specs.Held.{state}
use Rattle.sqlite.specs.State.{HasCleanDisk}
use Rattle.sqlite.specs.Store.{Ghosts}
use Rattle.lot_book.specs.Facts.{Entry}
use Rattle.lot_stored.specs.StandFor.{Stands}
use Rattle.lot_rows.specs.Tables.{Has, Tables}
use Rattle.lot_rows.proofs.StateLemmas.{early}
use Rattle.lot_walk.specs.Step.{IsPrefix}
use Rattle.lot_store.specs.Walk.{HasGiven, HasGivenRows, Walks, WalksOverRows}
use Rattle.lot_store.specs.declared.book.Book.{Book}
use Rattle.lot_store.specs.declared.walk.Walk.{Walk}
use Rattle.lot_store.specs.declared.walk.WalkFault.{WalkFault}

-- a walk that began at a book has given these, and goes on
pub record Gave {S Place Asked Shown : Type 0} (g : Ghosts S) (AreAll : Asked → List Entry → List Shown → Type 0)
    (IsBehind : Place → Tables → Asked → List Entry → List Shown → Type 0) (IsBehindRows : Place → Tables → Asked → List Shown → Type 0)
    (start : Book S g) (asked : Asked) (walk : Walk S Place g) (given : List Shown) : Type 0 where
  pub of_book : HasCleanDisk (state g walk.book.now.conn) → (entries : List Entry) → Stands (state g start.conn) entries
      → HasGiven g AreAll IsBehind walk asked entries given
  pub of_rows : HasCleanDisk (state g walk.book.now.conn) → (tables : Tables) → Has (state g start.conn) tables
      → HasGivenRows g IsBehindRows walk asked tables given

-- what a call that gives a row says of the rows of tables
abbrev pub GivesMore : {S Place Row Asked Shown : Type 0} → (g : Ghosts S) → (Row → Shown) → (Place → Tables → Asked → List Shown → Type 0)
    → Walk S Place g → Walk S Place g → Row → Type 0
GivesMore {Asked} {Shown} g shown IsBehindRows before after row =
    HasCleanDisk (state g after.book.now.conn) → (asked : Asked) (tables : Tables) (given : List Shown)
    → HasGivenRows g IsBehindRows before asked tables given → HasGivenRows g IsBehindRows after asked tables (given ++ shown row ∷ [])

module _ {S Place Asked Shown : Type 0} {g : Ghosts S} {AreAll : Asked → List Entry → List Shown → Type 0}
    {IsBehind : Place → Tables → Asked → List Entry → List Shown → Type 0} {IsBehindRows : Place → Tables → Asked → List Shown → Type 0}
    {start : Book S g} {asked : Asked} where
  -- they begin the rows of the book
  pub begins : {walk : Walk S Place g} {given : List Shown} → Gave g AreAll IsBehind IsBehindRows start asked walk given
      → HasCleanDisk (state g walk.book.now.conn) → (entries : List Entry) → Stands (state g start.conn) entries → IsPrefix AreAll asked entries given
  begins gave clean entries stands = (gave.of_book clean entries stands).prefix

  module _ {Row : Type 0} {shown : Row → Shown} {IsGood : Row → Type 0} {before after : Walk S Place g} {given : List Shown}
      (gave : Gave g AreAll IsBehind IsBehindRows start asked before given) where
    -- one more
    pub gave_more : (row : Row) → Walks g shown IsGood AreAll IsBehind before after (Ok (Some row)) → GivesMore g shown IsBehindRows before after row
        → Gave g AreAll IsBehind IsBehindRows start asked after (given ++ shown row ∷ [])
    gave_more row walks rows = record {
      of_book = λ clean entries stands. walks.gives clean asked entries given (gave.of_book (was clean) entries stands);
      of_rows = λ clean tables has. rows clean asked tables given (gave.of_rows (was clean) tables has);
    }
      where
        was : HasCleanDisk (state g after.book.now.conn) → HasCleanDisk (state g before.book.now.conn)
        was clean = early (state g before.book.now.conn) (state g after.book.now.conn) walks.crash clean

    -- at the end they are all
    pub gave_all : Walks g shown IsGood AreAll IsBehind before after (Ok None) → HasCleanDisk (state g after.book.now.conn)
        → (entries : List Entry) → Stands (state g start.conn) entries → AreAll asked entries given
    gave_all walks clean entries stands =
        let was = early (state g before.book.now.conn) (state g after.book.now.conn) walks.crash clean in
        walks.gives clean asked entries given (gave.of_book was entries stands)

    pub gave_all_rows : {AreAllRows : Asked → Tables → List Shown → Type 0} → Walks g shown IsGood AreAll IsBehind before after (Ok None)
        → WalksOverRows g shown AreAllRows IsBehindRows before after (Ok None) → HasCleanDisk (state g after.book.now.conn)
        → (tables : Tables) → Has (state g start.conn) tables → AreAllRows asked tables given
    gave_all_rows walks rows clean tables has =
        let was = early (state g before.book.now.conn) (state g after.book.now.conn) walks.crash clean in
        rows clean asked tables given (gave.of_rows was tables has)

    -- at a fault they begin the rows of the book still
    pub begins_at_fault : (fault : WalkFault) → Walks g shown IsGood AreAll IsBehind before after (Err fault)
        → HasCleanDisk (state g after.book.now.conn) → (entries : List Entry) → Stands (state g start.conn) entries → IsPrefix AreAll asked entries given
    begins_at_fault fault walks clean entries stands =
        begins gave (early (state g before.book.now.conn) (state g after.book.now.conn) walks.crash clean) entries stands
