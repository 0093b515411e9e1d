-- What a book holds, as rows.
use Rattle.std.specs.Prelude.{◌≡◌, Bool, true, false, List, [], ◌∷◌, ◌++◌, filter, map, not, Option, None, Some, Result, Err, OnErr, OnOk, ⊤}
use Rattle.std.specs.declared.cmp.Ordering.{Ordering}
use Rattle.std.specs.Option.{option_to_list}
use Rattle.std.specs.Ordering.{is_lt}
use Rattle.std.specs.Vec.Iter.{into_iter_items}
use Rattle.sqlite.specs.State.{HasCleanDisk, State, Survives}
use Rattle.sqlite_keyed.specs.Lists.{insert_sorted}
use Rattle.lot_book.specs.declared.holding.Holding.{Holding}
use Rattle.lot_book.specs.Facts.{Entry}
use Rattle.lot_book.specs.Holding.{ListsHoldings, position_of}
use Rattle.lot_book.specs.Leg.{position_cmp}
use Rattle.lot_book.specs.Recorded.{facts_in}
use Rattle.lot_stored.specs.StandFor.{StandFor}
use Rattle.lot_cost.specs.declared.lot_key.LotKey.{LotKey}
use Rattle.lot_page.specs.Cursor.{Gives, IsBehind, Place, Stays}
use Rattle.lot_rows.specs.Lot.{lot_cells}
use Rattle.lot_rows.specs.Tables.{Has, Tables}
use Rattle.lot_rows.specs.declared.lot.LotRow.{LotRow}
use Rattle.lot_rows.specs.declared.plain.PlainRow.{PlainRow}
use Rattle.lot_walk.specs.Step.{StaysOrGoesBack}
use Rattle.lot_walk.specs.declared.holdings.HoldingsPlace.{HoldingsPlace}
use Rattle.lot_table.specs.Statement.{DiskFailed}
use Rattle.lot_table.specs.declared.fault.Fault.{Fault}
use Rattle.lot_table.specs.declared.fault.Fault.TheVariants.{Damaged, Device}

-- The rows list what the book holds: each position with units once, by account and commodity, the plain units first and then
-- the lots in the order of their keys.
abbrev pub IsHoldings : List Entry → List Holding → Type 0
IsHoldings entries rows = ListsHoldings (facts_in entries) rows

-- the same, where nothing is asked
abbrev pub AreHoldings : Unit {0} → List Entry → List Holding → Type 0
AreHoldings asked entries rows = IsHoldings entries rows

-- ---- the rows of two tables

abbrev pub plain_holding : PlainRow → Holding
plain_holding row = record { account = row.account; commodity = row.commodity; lot = None; units = row.units }

abbrev pub lot_holding : LotRow → Holding
lot_holding row = record { account = row.account; commodity = row.commodity; lot = Some row.lot; units = row.units }

abbrev pub holding_cmp : Holding → Holding → Ordering
holding_cmp a b = position_cmp (position_of a) (position_of b)

-- the rows of both, each row of plain units before the first that isn't below it
abbrev pub merged : List PlainRow → List LotRow → List Holding
merged [] lots = map lot_holding lots
merged (row ∷ plain) lots = insert_sorted holding_cmp (plain_holding row) (merged plain lots)

-- whether a lot comes before plain units, where both are the next
abbrev pub is_lot_next : Option PlainRow → Option LotRow → Bool
is_lot_next plain None = false
is_lot_next None (Some lot) = true
is_lot_next (Some row) (Some lot) = is_lt (holding_cmp (lot_holding lot) (plain_holding row))

-- ---- the place of a walk

-- the rows of plain units that a place has left
abbrev pub plain_left : HoldingsPlace → List PlainRow
plain_left place = option_to_list place.plain ++ into_iter_items place.more

-- the lot that is read is the next of those that are left
abbrev pub IsNext : Option LotRow → List LotRow → Type 0
IsNext None left = left ≡ []
IsNext (Some lot) left = (rest : List LotRow) × (left ≡ lot ∷ rest)

-- the cursor is behind the lot that is read; past the last it isn't asked again
abbrev pub IsReadAhead : Option LotRow → List LotRow → List LotRow → Place → Type 0
IsReadAhead None taken lots cursor = ⊤
IsReadAhead (Some lot) taken lots cursor = IsBehind lot_cells (taken ++ lot ∷ []) lots cursor

-- A place has given these rows: those and the ones that are left, merged, are all rows of both tables.
pub record HasGiven (place : HoldingsPlace) (tables : Tables) (given : List Holding) : Type 0 where
  -- the rows of each table that were given, and the lots that are left
  pub passed : List PlainRow
  pub taken : List LotRow
  pub left : List LotRow
  pub plain : passed ++ plain_left place ≡ tables.plain
  pub read_all : place.plain ≡ None → into_iter_items place.more ≡ []
  pub lots : taken ++ left ≡ tables.lot
  pub next : IsNext place.lot left
  pub ahead : IsReadAhead place.lot taken tables.lot place.lots
  pub rows : given ++ merged (plain_left place) left ≡ merged tables.plain tables.lot

-- before the tables are read nothing is given
pub record HasNotBegun (place : HoldingsPlace) (tables : Tables) (given : List Holding) : Type 0 where
  pub none : given ≡ []
  pub first : IsBehind lot_cells [] tables.lot place.lots

abbrev pub IsAtStage : Bool → HoldingsPlace → Tables → List Holding → Type 0
IsAtStage true place tables given = HasGiven place tables given
IsAtStage false place tables given = HasNotBegun place tables given

abbrev pub IsAt : HoldingsPlace → Tables → List Holding → Type 0
IsAt place tables given = IsAtStage place.has_begun place tables given

-- ---- the rows of both, whatever the tables stand for

abbrev pub is_lot : Option LotKey → Bool
is_lot None = false
is_lot (Some lot) = true

abbrev pub is_at_lot : Holding → Bool
is_at_lot holding = is_lot holding.lot

abbrev pub is_plain : Holding → Bool
is_plain holding = not (is_lot holding.lot)

-- These are all rows of both tables, each kind in its order. Those at no lot are the rows of plain units. The others are the
-- lots, which are told by their columns.
pub record AreAllHoldingRows (asked : Unit {0}) (tables : Tables) (given : List Holding) : Type 0 where
  pub lots : List LotRow
  pub of_lot : map lot_cells lots ≡ map lot_cells tables.lot
  pub at_lots : filter is_at_lot given ≡ map lot_holding lots
  pub plain : filter is_plain given ≡ map plain_holding tables.plain

-- a place has given the first rows of each table
pub record HasGivenRows (place : HoldingsPlace) (tables : Tables) (given : List Holding) : Type 0 where
  pub passed : List PlainRow
  pub taken : List LotRow
  pub plain : passed ++ plain_left place ≡ tables.plain
  pub read_all : place.plain ≡ None → into_iter_items place.more ≡ []
  pub ahead : Gives lot_cells taken tables.lot place.lots place.lot
  pub of_plain : filter is_plain given ≡ map plain_holding passed
  pub of_lot : filter is_at_lot given ≡ map lot_holding taken

abbrev pub IsAtRowsStage : Bool → HoldingsPlace → Tables → List Holding → Type 0
IsAtRowsStage true place tables given = HasGivenRows place tables given
IsAtRowsStage false place tables given = HasNotBegun place tables given

abbrev pub IsBehindHoldingRows : HoldingsPlace → Tables → Unit {0} → List Holding → Type 0
IsBehindHoldingRows place tables asked given = IsAtRowsStage place.has_begun place tables given

-- a row is told as it is, and each is good
abbrev pub shown_holding : Holding → Holding
shown_holding holding = holding

abbrev pub IsAnyHolding : Holding → Type 0
IsAnyHolding holding = Unit {0}

abbrev pub IsBehindHoldings : HoldingsPlace → Tables → Unit {0} → List Entry → List Holding → Type 0
IsBehindHoldings place tables asked entries given = IsAt place tables given

-- ---- its parts

-- what is given of the rows of plain units, and what is left of them
abbrev pub Takes : HoldingsPlace → HoldingsPlace → Option Holding → Type 0
Takes before after None = before.plain ≡ None
Takes before after (Some holding) =
    (row : PlainRow) × (before.plain ≡ Some row) × (holding ≡ plain_holding row) × (plain_left after ≡ into_iter_items before.more)
    × (after.plain ≡ None → into_iter_items after.more ≡ [])

-- both tables are read, as far as the first lot
pub record Begins (before after : HoldingsPlace) (old new : State) (result : Result (Unit {0}) Fault) : Type 0 where
  pub begun : OnOk result (after.has_begun ≡ true)
  pub keeps : HasCleanDisk new → OnOk result ((tables : Tables) (entries : List Entry) → Has old tables → StandFor tables entries
      → (given : List Holding) → IsAt before tables given → IsAt after tables given)
  pub same : HasCleanDisk new → OnOk result (Stays old new)
  pub damaged : HasCleanDisk new → result ≡ Err Damaged → old.step_limit ≡ None → (tables : Tables) (entries : List Entry) → Has old tables → StandFor tables entries
      → (given : List Holding) → ¬ IsAt before tables given
  pub failed : HasCleanDisk new → result ≡ Err Device → DiskFailed old new
  pub left : HasCleanDisk new → OnErr result (StaysOrGoesBack old new)
  pub crash : Survives old new (λ _. ⊥)

-- the same of rows that may be those of no book
abbrev pub BeginsOverRows : HoldingsPlace → HoldingsPlace → State → State → Result (Unit {0}) Fault → Type 0
BeginsOverRows before after old new result =
    HasCleanDisk new → OnOk result ((tables : Tables) → Has old tables → (asked : Unit {0}) (given : List Holding) → IsBehindHoldingRows before tables asked given
    → IsBehindHoldingRows after tables asked given)
