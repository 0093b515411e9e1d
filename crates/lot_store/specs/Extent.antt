-- How far a book goes: how many entries it has, and how many of them its migration found.
use Rattle.std.specs.Prelude.{◌≡◌, ℕ, IfOk, List, [], ◌∷◌, length, OnOk, Result, Err}
use Rattle.std.specs.Option.{unwrap_or}
use Rattle.sqlite.specs.State.{HasCleanDisk, State, Survives}
use Rattle.lot_book.specs.Facts.{Entry}
use Rattle.lot_page.specs.Cursor.{Stays}
use Rattle.lot_rows.specs.Entry.{greatest_number}
use Rattle.lot_rows.specs.Tables.{Has, Tables}
use Rattle.lot_stored.specs.Rows.{migration_row}
use Rattle.lot_stored.specs.StandFor.{Stands}
use Rattle.lot_table.specs.Statement.{DiskFailed}
use Rattle.lot_store.specs.declared.extent.Extent.{Extent}
use Rattle.lot_store.specs.declared.fault.StoreFault.{StoreFault}
use Rattle.lot_store.specs.declared.fault.StoreFault.TheVariants.{Damaged, Device}

-- how far a book with that place of migration goes
abbrev pub extent_of : ℕ → List Entry → Extent
extent_of place entries = record { entries = length entries; place = place }

-- how many entries the tables have: the rows of entries count from 1
abbrev pub entries_in : Tables → ℕ
entries_in tables = unwrap_or (greatest_number tables.entry) 0

-- the tables say that place of migration
abbrev pub SaysPlace : ℕ → Tables → Type 0
SaysPlace place tables = tables.migration ≡ migration_row place ∷ []

-- the tables say that the book goes so far
abbrev pub IsExtent : Extent → Tables → Type 0
IsExtent extent tables = (extent.entries ≡ entries_in tables) × SaysPlace extent.place tables

-- what asking how far a book goes comes to
pub record Measures (old new : State) (result : Result Extent StoreFault) : Type 0 where
  pub of_book : HasCleanDisk new
      → IfOk result (λ extent. (entries : List Entry) (stands : Stands old entries) → extent ≡ extent_of stands.stand.place entries)
  -- whatever the tables stand for
  pub says : HasCleanDisk new → IfOk result (λ extent. (tables : Tables) → Has old tables → IsExtent extent tables)
  pub same : HasCleanDisk new → OnOk result (Stays old new)
  -- damage is found only where the tables stand for no book
  pub damaged : HasCleanDisk new → result ≡ Err Damaged → (entries : List Entry) → ¬ Stands old entries
  pub failed : HasCleanDisk new → result ≡ Err Device → DiskFailed old new
  pub crash : Survives old new (λ _. ⊥)
