-- How far the entries of tables are judged again.
use Rattle.std.specs.Prelude.{◌≡◌, ℕ, suc, pos, List, [], ◌∷◌, ◌++◌, All, map, ⊤}
use Rattle.std.specs.List.{AllByRecursion}
use Rattle.sqlite.specs.declared.types.Value.TheVariants.{Int}
use Rattle.lot_command.specs.Sayable.{IsSayable}
use Rattle.lot_book.specs.Edition.{After}
use Rattle.lot_book.specs.Facts.{Entry}
use Rattle.lot_book.specs.Sale.{SaleParts}
use Rattle.lot_book.specs.declared.leg.Leg.{Leg}
use Rattle.lot_page.specs.Cursor.{IsBehind, Place}
use Rattle.lot_table.specs.Rows.{with_key}
use Rattle.lot_rows.specs.Entry.{IsEntryRow, entry_cells}
use Rattle.lot_rows.specs.Leg.{IsLegRow, leg_cells}
use Rattle.lot_rows.specs.Sale.{IsSaleRow, sale_cells}
use Rattle.lot_rows.specs.Tables.{Tables}
use Rattle.lot_rows.specs.declared.entry.EntryRow.{EntryRow}
use Rattle.lot_rows.specs.declared.leg.LegRow.{LegRow}
use Rattle.lot_rows.specs.declared.sale.SaleRow.{SaleRow}
use Rattle.lot_stored.specs.Kept.{SalesOf}
use Rattle.lot_stored.specs.Rows.{entry_rows, migration_row, sale_row}
use Rattle.lot_audit.specs.Entries.{AllHave}
use Rattle.lot_audit.specs.Legs.{AreAlike}
use Rattle.lot_audit.specs.Rates.{KeepsRates}
use Rattle.lot_audit.specs.Replay.{Replays}
use Rattle.lot_audit.specs.declared.pass.Replayed.{Replayed}
use Rattle.lot_audit.specs.declared.pass.Pass.{Pass}

-- ---- legs

-- the rows of the table `leg` under the number of an entry, told by their columns, are those of its legs, posting by posting
pub record HasLegs (number : ℕ) (legs : List Leg) (tables : Tables) : Type 0 where
  pub rows : List LegRow
  pub good : All IsLegRow rows
  pub same : map leg_cells rows ≡ map leg_cells (with_key leg_cells 1 (Int (pos number) ∷ []) tables.leg)
  pub alike : (posting : ℕ) → AreAlike posting rows legs

-- so they are for each of the entries, of which the first has that number
abbrev pub HaveLegs : ℕ → List Entry → Tables → Type 0
HaveLegs number [] tables = ⊤
HaveLegs number (entry ∷ entries) tables = HasLegs number entry.legs tables × HaveLegs (suc number) entries tables

-- ---- sales

-- a cursor over the sales is behind some of them
abbrev pub IsAmongSales : Place → Tables → Type 0
IsAmongSales cursor tables = (given : List SaleRow) × IsBehind sale_cells given tables.sale cursor

-- the cursor was behind some rows, and is behind these too
abbrev pub GoesOnBy : Place → Place → List SaleRow → Tables → Type 0
GoesOnBy before after rows tables =
    AllByRecursion IsSaleRow rows
    × ((given : List SaleRow) → IsBehind sale_cells given tables.sale before
    → IsBehind sale_cells (given ++ rows) tables.sale after)

-- other rows come next
abbrev pub HasOthersNext : Place → List SaleRow → Tables → Type 0
HasOthersNext before rows tables = (given rest : List SaleRow) → IsBehind sale_cells given tables.sale before
    → ¬ (tables.sale ≡ given ++ (rows ++ rest))

-- ---- entries

-- These entries are judged, a book with the place of migration that the tables say, and these are its sales. The tables have
-- the rows of their legs and of their commands.
pub record Judged (known : Replayed) (tables : Tables) (entries : List Entry) (sales : List (ℕ × (ℕ × SaleParts))) : Type 0 where
  pub migration : tables.migration ≡ migration_row known.replay.place ∷ []
  pub replays : Replays known.replay entries
  pub rates : KeepsRates known.rates entries
  pub said : AllByRecursion (λ (entry : Entry). IsSayable entry.command) entries
  pub good : AllByRecursion IsEntryRow (entry_rows 1 entries)
  pub legs : HaveLegs 1 entries tables
  pub have : AllHave tables entries
  pub sold : SalesOf (After known.replay.place) entries sales
  pub sold_good : AllByRecursion IsSaleRow (map sale_row sales)

-- the entries whose rows are read are judged
abbrev pub HasJudged : Pass → Tables → Type 0
HasJudged pass tables = (entries : List Entry) × (sales : List (ℕ × (ℕ × SaleParts)))
    × Judged pass.known tables entries sales
    × IsBehind entry_cells (entry_rows 1 entries) tables.entry pass.entries
    × IsBehind sale_cells (map sale_row sales) tables.sale pass.sales

-- all but the last of them, which has this row
abbrev pub HasRead : Pass → EntryRow → Tables → Type 0
HasRead pass row tables = (entries : List Entry) × (sales : List (ℕ × (ℕ × SaleParts)))
    × Judged pass.known tables entries sales
    × IsBehind entry_cells (entry_rows 1 entries ++ row ∷ []) tables.entry pass.entries
    × IsBehind sale_cells (map sale_row sales) tables.sale pass.sales
    × IsEntryRow row

-- all entries are judged; there may be sales left
abbrev pub HasReadAll : Pass → Tables → Type 0
HasReadAll pass tables = (entries : List Entry) × (sales : List (ℕ × (ℕ × SaleParts)))
    × Judged pass.known tables entries sales
    × (tables.entry ≡ entry_rows 1 entries)
    × IsBehind sale_cells (map sale_row sales) tables.sale pass.sales

-- all entries are judged, and no sale is left
abbrev pub HasJudgedAll : Replayed → Tables → Type 0
HasJudgedAll known tables = (entries : List Entry) × (sales : List (ℕ × (ℕ × SaleParts)))
    × Judged known tables entries sales
    × (tables.entry ≡ entry_rows 1 entries)
    × (tables.sale ≡ map sale_row sales)

-- the tables say that place of migration
abbrev pub SaysPlace : ℕ → Tables → Type 0
SaysPlace place tables = tables.migration ≡ migration_row place ∷ []
