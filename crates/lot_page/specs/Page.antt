-- A page of one table of a book: some of its rows, in the order of their key, behind the last one that was given.
use Rattle.std.specs.Prelude.{◌≡◌, ◌≤◌, ◌&&◌, ℕ, zero, suc, Bool, not, [], ◌++◌, List, filter, length, map, take, Option, None, Some, Result, Vec}
use Rattle.std.specs.Ordering.{is_eq, is_gt, is_lt}
use Rattle.std.specs.declared.alloc.Global.{Global}
use Rattle.sqlite.specs.Order.{Row}
use Rattle.sqlite.specs.State.{State}
use Rattle.sqlite.specs.declared.types.Value.{Value}
use Rattle.sqlite_value.specs.Order.{column, value_cmp}
use Rattle.lot_rows.specs.Tables.{Tables, layout}
use Rattle.lot_table.specs.Book.{always}
use Rattle.lot_table.specs.Call.{Answers}
use Rattle.lot_table.specs.Rows.{key_order}
use Rattle.lot_table.specs.declared.fault.Fault.{Fault}

-- ---- how many rows a page has at most

abbrev pub page_rows : ℕ
page_rows = 5000

-- an entry has the text of its command, which may be long
abbrev pub entry_page_rows : ℕ
entry_page_rows = 100

-- ---- the rows behind one

-- by so many first columns of the key the row comes after that one
abbrev pub is_past : ℕ → Row → Row → Bool
is_past width start row = is_gt (key_order width row start)

-- so many columns from that one on are equal in both, and by the next the row comes after that one
abbrev pub level : ℕ → ℕ → Row → Row → Bool
level zero at start row = is_gt (value_cmp (column row at) (column start at))
level (suc n) at start row = is_eq (value_cmp (column row at) (column start at)) && level n (suc at) start row

-- its first column is that value, or comes after it
abbrev pub is_from : Value → Row → Bool
is_from first row = not (is_lt (value_cmp (column row 0) first))

-- those behind the last one, or all of them
abbrev pub behind : ℕ → Option Row → List Row → List Row
behind width None rows = rows
behind width (Some last) rows = filter (is_past width last) rows

-- ---- the rows of a page

-- the first of these rows: so many at most, and none only where there are none
pub record IsPageOf (most : ℕ) (rows page : List Row) : Type 0 where
  pub unread : List Row
  pub read : page ++ unread ≡ rows
  pub few : length page ≤ most
  pub some : page ≡ [] → rows ≡ []

-- The call answers the first rows that pass a test. Without a limit on steps it finds no damage in a book.
abbrev pub Takes : {X : Type 0} → (X → Row) → (Tables → List X) → ℕ → (Row → Bool) → State → State → Result (Vec Row Global) Fault → Type 0
Takes encode rows most passes = Answers layout (λ found book. found.items ≡ take most (filter passes (map encode (rows book)))) always always

-- The call answers a page of those rows of the table, and finds no damage likewise.
abbrev pub PagesOf : {X : Type 0} → (X → Row) → (Tables → List X) → ℕ → (List Row → List Row) → State → State → Result (Vec Row Global) Fault → Type 0
PagesOf encode rows most those = Answers layout (λ found book. IsPageOf most (those (map encode (rows book))) found.items) always always

-- of those behind the last one, by so many columns
abbrev pub Pages : {X : Type 0} → (X → Row) → (Tables → List X) → ℕ → ℕ → Option Row → State → State → Result (Vec Row Global) Fault → Type 0
Pages encode rows width most last = PagesOf encode rows most (behind width last)
