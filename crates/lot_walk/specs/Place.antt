-- A place among the rows of a book that goes on without giving a row.
use Rattle.std.specs.Prelude.{List}
use Rattle.sqlite.specs.State.{HasCleanDisk, State, Survives}
use Rattle.lot_book.specs.Book.{IsBook}
use Rattle.lot_book.specs.Facts.{Entry}
use Rattle.lot_stored.specs.StandFor.{StandFor}
use Rattle.lot_page.specs.Cursor.{Stays}
use Rattle.lot_rows.specs.Tables.{Has, Tables}

-- a place that was behind some rows is behind them still, and the connection shows what it showed
pub record Went {Place Asked Shown : Type 0} (IsBehind : Place → Tables → Asked → List Entry → List Shown → Type 0) (before after : Place) (old new : State) : Type 0 where
  pub keeps : HasCleanDisk new → (tables : Tables) (entries : List Entry) → Has old tables → IsBook entries → StandFor tables entries
      → (asked : Asked) (given : List Shown) → IsBehind before tables asked entries given → IsBehind after tables asked entries given
  pub same : HasCleanDisk new → Stays old new
  pub survives : Survives old new (λ _. ⊥)

-- it is behind them still, whatever the tables stand for
abbrev pub KeepsRows : {Place Asked Shown : Type 0} → (Place → Tables → Asked → List Shown → Type 0) → Place → Place → State → State → Type 0
KeepsRows {Asked} {Shown} IsBehindRows before after old new =
    HasCleanDisk new → (tables : Tables) → Has old tables → (asked : Asked) (given : List Shown) → IsBehindRows before tables asked given
    → IsBehindRows after tables asked given
