-- A table as the list of its rows in the order of their keys. A row here is its columns, those of the key first.
use Rattle.std.specs.Prelude.{◌≡◌, ℕ, Bool, not, if◌then◌else◌, List, [], map, drop, filter, IsPermutation}
use Rattle.std.specs.List.{list_any}
use Rattle.std.specs.Ordering.{is_eq}
use Rattle.std.specs.declared.cmp.Ordering.{Ordering}
use Rattle.std.specs.declared.cmp.Ordering.TheVariants.{Less}
use Rattle.sqlite.specs.Order.{Row}
use Rattle.sqlite.specs.Query.{key_cmp}
use Rattle.sqlite.specs.Tree.{IsAscending}
use Rattle.sqlite.specs.View.{IsShaped}
use Rattle.sqlite_keyed.specs.Lists.{insert_sorted}
use Rattle.sqlite_trees.specs.declared.store.Shape.TheVariants.{Table}
use Rattle.sqlite_value.specs.Keys.{rising}

-- ---- rows

-- the columns of a stored row, which begins with its rowid
abbrev pub columns : Row → Row
columns stored = drop 1 stored

-- the order of rows by so many of their first columns, each in SQLite's order of values
abbrev pub key_order : ℕ → Row → Row → Ordering
key_order width = key_cmp 0 (rising width [])

-- whether so many first columns of a row are those of the key
abbrev pub has_key : ℕ → Row → Row → Bool
has_key width key row = is_eq (key_order width row key)

-- the rows without the one of that key
abbrev pub without_row : ℕ → Row → List Row → List Row
without_row width key = filter (λ row. not (has_key width key row))

-- the rows with this one in its place, instead of the one of its key
abbrev pub with_row : ℕ → Row → List Row → List Row
with_row width new rows = insert_sorted (key_order width) new (without_row width new rows)

-- the stored rows of a table are these, in the order of their keys, no two of which are the same
pub record HasRows (width : ℕ) (stored rows : List Row) : Type 0 where
  -- the rowids are whole numbers, and rise
  pub shaped : IsShaped Table stored
  pub same : IsPermutation (map columns stored) rows
  pub rises : IsAscending (λ a b. key_order width a b ≡ Less) rows

-- ---- values, each of which is a row

-- those whose first columns are these
abbrev pub with_key : {X : Type 0} → (X → Row) → ℕ → Row → List X → List X
with_key encode width key = filter (λ x. has_key width key (encode x))

-- the others
abbrev pub without_key : {X : Type 0} → (X → Row) → ℕ → Row → List X → List X
without_key encode width key = filter (λ x. not (has_key width key (encode x)))

-- this one in its place, instead of the one of its key
abbrev pub put_in : {X : Type 0} → (X → Row) → ℕ → X → List X → List X
put_in encode width new xs = insert_sorted (λ a b. key_order width (encode a) (encode b)) new (without_key encode width (encode new) xs)

-- whether some row has that key
abbrev pub is_there : {X : Type 0} → (X → Row) → ℕ → Row → List X → Bool
is_there encode width key xs = list_any (λ x. has_key width key (encode x)) xs

-- this one in the place of the one of its key; nothing where there is none
abbrev pub set_in : {X : Type 0} → (X → Row) → ℕ → X → List X → List X
set_in encode width new xs = if is_there encode width (encode new) xs then put_in encode width new xs else xs
