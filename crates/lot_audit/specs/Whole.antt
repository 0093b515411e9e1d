-- A statement that answers all rows of a table.
use Rattle.std.specs.Prelude.{◌≡◌, ℕ, All, List, []}
use Rattle.sqlite.specs.Order.{Row}
use Rattle.lot_rows.specs.Tables.{Tables, layout}
use Rattle.lot_stored.specs.StandFor.{AreOfBook}
use Rattle.lot_table.specs.Book.{BookTable}
use Rattle.lot_table.specs.Rows.{has_key}
use Rattle.lot_table.proofs.QueryLemmas.{Asks}
use Rattle.lot_table.proofs.StatementLemmas.{IsTable}

-- The text asks for all rows of a table. Rows that a book can have are told by their columns, and those of a book are such.
pub record AsksForAll {X : Type 0} (encode : X → Row) (IsGood : X → Type 0) (rows : Tables → List X) (text : List ℕ) : Type 0 where
  pub table : BookTable Tables X
  pub encodes : table.encode ≡ encode
  pub lists : table.rows ≡ rows
  pub is : IsTable layout table
  pub asks : Asks layout table [] (has_key 0 []) text
  pub one : (x y : X) → IsGood x → IsGood y → encode x ≡ encode y → x ≡ y
  pub sound : (tables : Tables) → AreOfBook tables → All IsGood (rows tables)
