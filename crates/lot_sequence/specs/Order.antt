-- The order in which rows are judged (docs/FORMATS.md, Profiles).
use Rattle.std.specs.Prelude.{◌≡◌, ℕ, ◌==◌, ◌<◌, Bool, true, false, List, length, reverse, slice_index_or, take, Option, ℤ, int_lt}
use Rattle.std.specs.declared.cmp.Ordering.{Ordering}
use Rattle.std.specs.declared.cmp.Ordering.TheVariants.{Equal}
use Rattle.std.specs.Cmp.{IsTotalOrder}
use Rattle.std.specs.List.{HoldsAt, IsDistinct, find, slice_get}
use Rattle.std.specs.List.Sorted.{IsPermutation, IsSorted}
use Rattle.std.specs.Option.{option_map_or, unwrap_or}
use Rattle.std.specs.Ordering.{nat_cmp, int_cmp, ordering_then}
use Rattle.lot_profile.specs.declared.table.Order.{Order}
use Rattle.lot_profile.specs.declared.table.Order.TheVariants.{OldestFirst, NewestFirst, ByDay, ByDayNewestFirst}
use Rattle.lot_sequence.specs.declared.row.Row.{Row}

-- ---- Which of two rows is judged first.

-- the order of a table
abbrev pub order_of : List Order → ℕ → Order
order_of orders table = unwrap_or (slice_get orders table) OldestFirst

-- the time of a row; a row without one stands with the smallest
abbrev pub time_of : Row → ℕ
time_of row = unwrap_or row.time 0

-- two rows of one day and one table of that order
abbrev pub table_cmp : Order → Row → Row → Ordering
table_cmp OldestFirst a b = nat_cmp a.number b.number
table_cmp NewestFirst a b = nat_cmp b.number a.number
table_cmp ByDay a b = ordering_then (nat_cmp (time_of a) (time_of b)) (nat_cmp a.number b.number)
table_cmp ByDayNewestFirst a b = ordering_then (nat_cmp (time_of a) (time_of b)) (nat_cmp b.number a.number)

-- two rows of one file
abbrev pub row_cmp : List Order → Row → Row → Ordering
row_cmp orders a b =
    ordering_then (ordering_then (int_cmp a.day b.day) (nat_cmp a.table b.table)) (table_cmp (order_of orders a.table) a b)

-- ---- Which rows stand against the order of their table.

-- whether a day may not stand next below another in a table of that order
abbrev pub goes_back : Order → ℤ → ℤ → Bool
goes_back OldestFirst above day = int_lt day above
goes_back NewestFirst above day = int_lt above day
goes_back ByDay above day = false
goes_back ByDayNewestFirst above day = false

-- of the rows above, the one of that table that stands next above
abbrev pub next_above : ℕ → List Row → Option Row
next_above table above = find (λ row. row.table == table) (reverse above)

-- whether the day of a row stands against the order of its table, where these rows stand above it
abbrev pub is_against : List Order → List Row → Row → Bool
is_against orders above row = option_map_or (λ other. goes_back (order_of orders row.table) other.day row.day) (next_above row.table above) false

-- none of the first rows stands against it
abbrev pub StandInOrder : List Order → List Row → ℕ → Type 0
StandInOrder orders rows count =
    (place : ℕ) (d : Row) → place < count → is_against orders (take place rows) (slice_index_or rows place d) ≡ false

-- the first row that stands against it has that number
pub record IsFirstAgainst (orders : List Order) (rows : List Row) (number : ℕ) : Type 0 where
  pub place : ℕ
  pub within : place < length rows
  pub is : HoldsAt (λ row. row.number ≡ number) rows place
  pub against : HoldsAt (λ row. is_against orders (take place rows) row ≡ true) rows place
  pub before : StandInOrder orders rows place

-- ---- Laws.

-- two rows compare as in one order of all rows
abbrev pub ThereIsAnOrder : Type 0
ThereIsAnOrder = (orders : List Order) → IsTotalOrder (row_cmp orders)

-- two rows that tie have one number
abbrev pub TiesHaveOneNumber : Type 0
TiesHaveOneNumber = (orders : List Order) (a b : Row) → row_cmp orders a b ≡ Equal → a.number ≡ b.number

-- of rows whose numbers differ, there is one list of the same rows that is in the order of judging
abbrev pub ThereIsOneOrder : Type 0
ThereIsOneOrder =
    (orders : List Order) (rows first second : List Row) → IsDistinct (λ a b. a.number == b.number) rows
    → IsPermutation rows first → IsSorted (row_cmp orders) first
    → IsPermutation rows second → IsSorted (row_cmp orders) second → first ≡ second
