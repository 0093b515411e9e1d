-- What migration reads, in its open transaction.
use Rattle.std.specs.Prelude.{◌≡◌, ◌≢◌, ℕ, pos, List, [], ◌∷◌, ◌++◌, Option, Some, All, map, None, IfOk, OnOk, IsSome, Result, Err}
use Rattle.std.specs.Option.{unwrap_or}
use Rattle.sqlite.specs.Order.{Row}
use Rattle.sqlite.specs.declared.types.Value.TheVariants.{Int}
use Rattle.sqlite.specs.State.{HasCleanDisk, KeepsCommit, State, Survives}
use Rattle.lot_num.specs.Amount.{IsUnits}
use Rattle.lot_book.specs.Leg.{sum_at}
use Rattle.lot_book.specs.OpeningNumber.{IsNumbered}
use Rattle.lot_book.specs.declared.leg.Leg.{Leg}
use Rattle.lot_book.specs.declared.leg.Position.{Position}
use Rattle.lot_migrate.specs.LotOpenings.{Keeps, ListsOpenings}
use Rattle.lot_migrate.specs.declared.opening_numbers.LotOpening.{LotOpening}
use Rattle.lot_migrate.specs.declared.opening_numbers.OpenLots.{OpenLots}
use Rattle.lot_table.specs.Cell.{IsOpeningNumber, IsOrdinal}
use Rattle.lot_table.specs.Statement.{DiskFailed}
use Rattle.lot_table.specs.declared.fault.Fault.{Fault}
use Rattle.lot_table.specs.declared.fault.Fault.TheVariants.{Damaged, Device}
use Rattle.lot_rows.specs.Entry.{IsEntryRow, greatest_number}
use Rattle.lot_rows.specs.Leg.{IsLegRow, leg_cells}
use Rattle.lot_rows.specs.Tables.{Has, Tables}
use Rattle.lot_rows.specs.declared.leg.LegRow.{LegRow}
use Rattle.lot_page.specs.Cursor.{Stays}
use Rattle.lot_migrate.specs.Rows.{leg_of, legs_in}
use Rattle.lot_migrate.specs.declared.fill.Reading.{Reading}

-- ---- a question in a transaction

-- The answer is what `Says` tells of the tables. Without a limit on steps damage is found only in
-- tables that can't be read. Nothing is changed.
pub record Reads {R : Type 0} (Says : R → Tables → Type 0) (CanRead : Tables → Type 0)
    (old new : State) (result : Result R Fault) : Type 0 where
  pub says : HasCleanDisk new
      → IfOk result (λ found. (tables : Tables) → Has old tables → Says found tables)
  pub same : HasCleanDisk new → OnOk result (Stays old new)
  pub damaged : HasCleanDisk new → result ≡ Err Damaged → old.step_limit ≡ None
      → (tables : Tables) → Has old tables → ¬ CanRead tables
  pub device : HasCleanDisk new → result ≡ Err Device → DiskFailed old new
  pub kept : HasCleanDisk new → KeepsCommit old new
  pub crash : Survives old new (λ _. ⊥)

-- ---- the legs

-- rows of legs that a book can have, and their numbers are those of a book
pub record AreLegs (rows : List LegRow) : Type 0 where
  pub good : All IsLegRow rows
  pub numbered : All IsNumbered (map leg_of rows)

-- however many of the legs are posted, what they leave in a lot is in the range of units
abbrev pub LotsStayInRange : List Leg → Type 0
LotsStayInRange legs =
    (done more : List Leg) → legs ≡ done ++ more → (lot : Position) → IsSome lot.lot → IsUnits (sum_at done lot)

-- the legs of these tables can be folded
pub record CanFold (tables : Tables) : Type 0 where
  pub legs : AreLegs tables.leg
  pub in_range : LotsStayInRange (legs_in tables)

-- these are the legs of the tables, told by their columns
pub record AreLegsOf (tables : Tables) (rows : List LegRow) : Type 0 where
  pub legs : AreLegs rows
  pub same : map leg_cells rows ≡ map leg_cells tables.leg

-- what is kept of the legs of the tables
abbrev pub KeepsTable : OpenLots → Tables → Type 0
KeepsTable lots tables = (rows : List LegRow) × AreLegsOf tables rows × Keeps (map leg_of rows) lots

-- the opening numbers of the lots that the legs of the tables leave units in
pub record ListsTable (openings : List LotOpening) (tables : Tables) : Type 0 where
  pub rows : List LegRow
  pub are : AreLegsOf tables rows
  pub lists : ListsOpenings (map leg_of rows) openings

-- the row has the columns of the last one, and there is none of no rows
abbrev pub IsLastOf : List Row → Option LegRow → Type 0
IsLastOf page None = page ≡ []
IsLastOf page (Some row) = (before : List Row) × (page ≡ before ++ leg_cells row ∷ [])

-- ---- all of it

-- how many entries the tables have: the rows of entries count from 1
abbrev pub entries_in : Tables → ℕ
entries_in tables = unwrap_or (greatest_number tables.entry) 0

-- the number in the only column of the first row, or 0 of no rows
abbrev pub IsFirstNumber : List Row → ℕ → Type 0
IsFirstNumber [] number = number ≡ 0
IsFirstNumber (row ∷ more) number = row ≡ Int (pos number) ∷ []

-- the first of the rows is that of no entry's number
abbrev pub IsNoNumber : List Row → Type 0
IsNoNumber rows =
    (row : Row) × (more : List Row) × (rows ≡ row ∷ more)
    × ((number : ℕ) → IsOrdinal number → row ≢ Int (pos number) ∷ [])

-- what is read tells the tables
abbrev pub IsReading : Reading → Tables → Type 0
IsReading it tables = (it.entries ≡ entries_in tables) × ListsTable it.openings.items tables

-- each opening number fits its column
abbrev pub AreNumbers : List LotOpening → Type 0
AreNumbers = All (λ (it : LotOpening). IsOpeningNumber it.opening)

-- a book of edition 1 can be migrated that has these tables
pub record CanMigrate (tables : Tables) : Type 0 where
  pub fold : CanFold tables
  pub entries : All IsEntryRow tables.entry
