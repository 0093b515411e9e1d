-- What writes make of the tables of a book.
use Rattle.std.specs.Prelude.{ℕ, List, [], ◌∷◌}
use Rattle.sqlite.specs.Order.{Row}
use Rattle.lot_table.specs.Book.{BookTable}
use Rattle.lot_table.specs.Call.{LacksKey}
use Rattle.lot_table.specs.Rows.{put_in, set_in, without_key}
use Rattle.lot_rows.specs.Account.{IsAccountRow}
use Rattle.lot_rows.specs.Allowed.{IsAllowedRow}
use Rattle.lot_rows.specs.Commodity.{IsCommodityRow}
use Rattle.lot_rows.specs.Entry.{IsEntryRow}
use Rattle.lot_rows.specs.Head.{IsHeadRow}
use Rattle.lot_rows.specs.Leg.{IsLegRow}
use Rattle.lot_rows.specs.Lot.{IsLotRow}
use Rattle.lot_rows.specs.LotKey.{IsLotKey}
use Rattle.lot_rows.specs.Opening.{IsOpeningRow}
use Rattle.lot_rows.specs.Plain.{IsPlainRow}
use Rattle.lot_rows.specs.Price.{IsPriceRow}
use Rattle.lot_rows.specs.Sale.{IsSaleRow}
use Rattle.lot_rows.specs.Tables.{IsNewEntry, Tables, account_table, allowed_table, commodity_table, entry_table, head_table, leg_table, lot_table, opening_table, plain_table, price_table, sale_table}
use Rattle.lot_stored.specs.Rows.{lot_key, migration_row, pair_key}
use Rattle.lot_write.specs.declared.write.Write.{Write}
use Rattle.lot_write.specs.declared.write.Write.TheVariants as write

-- ---- one write

abbrev pub with_put : {X : Type 0} → BookTable Tables X → X → Tables → Tables
with_put t x tables = t.with_rows (put_in t.encode t.width x (t.rows tables)) tables

abbrev pub with_set : {X : Type 0} → BookTable Tables X → X → Tables → Tables
with_set t x tables = t.with_rows (set_in t.encode t.width x (t.rows tables)) tables

abbrev pub with_deleted : {X : Type 0} → BookTable Tables X → Row → Tables → Tables
with_deleted t key tables = t.with_rows (without_key t.encode t.width key (t.rows tables)) tables

abbrev pub written : Write → Tables → Tables
written (write.Account row) = with_put account_table row
written (write.Allowed row) = with_put allowed_table row
written (write.Commodity row) = with_put commodity_table row
written (write.Price row) = with_put price_table row
written (write.Entry row) = with_put entry_table row
written (write.Leg row) = with_put leg_table row
written (write.Sale row) = with_put sale_table row
written (write.Lot row) = with_put lot_table row
written (write.SetLot row) = with_set lot_table row
written (write.NoLot account commodity lot) = with_deleted lot_table (lot_key account commodity lot)
written (write.Opening row) = with_put opening_table row
written (write.NoOpening account commodity lot) = with_deleted opening_table (lot_key account commodity lot)
written (write.Plain row) = with_put plain_table row
written (write.SetPlain row) = with_set plain_table row
written (write.NoPlain account commodity) = with_deleted plain_table (pair_key account commodity)
written (write.Head row) = with_put head_table row
written (write.SetHead row) = with_set head_table row

-- the tables take the write: a row that is added is new, and an entry's source and name are told of no other entry
abbrev pub Fits : Write → Tables → Type 0
Fits (write.Account row) tables = Unit {0}
Fits (write.Allowed row) tables = Unit {0}
Fits (write.Commodity row) tables = Unit {0}
Fits (write.Price row) tables = Unit {0}
Fits (write.Entry row) tables = IsNewEntry row tables
Fits (write.Leg row) tables = LacksKey leg_table row tables
Fits (write.Sale row) tables = LacksKey sale_table row tables
Fits (write.Lot row) tables = Unit {0}
Fits (write.SetLot row) tables = Unit {0}
Fits (write.NoLot account commodity lot) tables = Unit {0}
Fits (write.Opening row) tables = Unit {0}
Fits (write.NoOpening account commodity lot) tables = Unit {0}
Fits (write.Plain row) tables = Unit {0}
Fits (write.SetPlain row) tables = Unit {0}
Fits (write.NoPlain account commodity) tables = Unit {0}
Fits (write.Head row) tables = Unit {0}
Fits (write.SetHead row) tables = Unit {0}

-- the row that is put is one that a book can have
abbrev pub IsGood : Write → Type 0
IsGood (write.Account row) = IsAccountRow row
IsGood (write.Allowed row) = IsAllowedRow row
IsGood (write.Commodity row) = IsCommodityRow row
IsGood (write.Price row) = IsPriceRow row
IsGood (write.Entry row) = IsEntryRow row
IsGood (write.Leg row) = IsLegRow row
IsGood (write.Sale row) = IsSaleRow row
IsGood (write.Lot row) = IsLotRow row
IsGood (write.SetLot row) = IsLotRow row
IsGood (write.NoLot account commodity lot) = IsLotKey lot
IsGood (write.Opening row) = IsOpeningRow row
IsGood (write.NoOpening account commodity lot) = IsLotKey lot
IsGood (write.Plain row) = IsPlainRow row
IsGood (write.SetPlain row) = IsPlainRow row
IsGood (write.NoPlain account commodity) = Unit {0}
IsGood (write.Head row) = IsHeadRow row
IsGood (write.SetHead row) = IsHeadRow row

-- ---- writes, one after another

abbrev pub written_all : List Write → Tables → Tables
written_all [] tables = tables
written_all (one ∷ more) tables = written_all more (written one tables)

abbrev pub AreFit : List Write → Tables → Type 0
AreFit [] tables = Unit {0}
AreFit (one ∷ more) tables = Fits one tables × AreFit more (written one tables)

-- ---- the place of migration

-- the tables with that place of migration
abbrev pub placed_at : ℕ → Tables → Tables
placed_at place tables = record tables { migration = migration_row place ∷ [] }
