-- The row of a key, and the rows that a book's own facts make.
use Rattle.std.specs.Prelude.{ℕ, ℤ, pos, suc, List, [], ◌∷◌, Option, slice_get, codes}
use Rattle.sqlite.specs.Order.{Row}
use Rattle.sqlite.specs.declared.types.Value.TheVariants.{Int, Text}
use Rattle.lot_cost.specs.declared.lot_key.LotKey.{LotKey}
use Rattle.lot_command.specs.Canonical.{canonical}
use Rattle.lot_book.specs.Facts.{Entry}
use Rattle.lot_book.specs.Sale.{SaleParts}
use Rattle.lot_book.specs.declared.leg.Leg.{Leg}
use Rattle.lot_book.specs.declared.standing.Standing.{Standing}
use Rattle.lot_table.specs.Book.{BookTable}
use Rattle.lot_table.specs.Cell.{label_text}
use Rattle.lot_table.specs.Rows.{with_key}
use Rattle.lot_rows.specs.Tables.{Tables}
use Rattle.lot_rows.specs.declared.account.AccountRow.{AccountRow}
use Rattle.lot_rows.specs.declared.allowed.AllowedRow.{AllowedRow}
use Rattle.lot_rows.specs.declared.book.BookRow.{BookRow}
use Rattle.lot_rows.specs.declared.commodity.CommodityRow.{CommodityRow}
use Rattle.lot_rows.specs.declared.entry.EntryRow.{EntryRow}
use Rattle.lot_rows.specs.declared.head.HeadRow.{HeadRow}
use Rattle.lot_rows.specs.declared.leg.LegRow.{LegRow}
use Rattle.lot_rows.specs.declared.lot.LotRow.{LotRow}
use Rattle.lot_rows.specs.declared.migration.MigrationRow.{MigrationRow}
use Rattle.lot_rows.specs.declared.opening.OpeningRow.{OpeningRow}
use Rattle.lot_rows.specs.declared.plain.PlainRow.{PlainRow}
use Rattle.lot_rows.specs.declared.price.PriceRow.{PriceRow}
use Rattle.lot_rows.specs.declared.sale.SaleRow.{SaleRow}

-- ---- keys

-- the row of a key: no two rows of a table have one
abbrev pub row_at : {X : Type 0} → BookTable Tables X → Row → Tables → Option X
row_at t key tables = slice_get (with_key t.encode t.width key (t.rows tables)) 0

-- the key of an account's row, of a commodity's, and of the rows of a currency that an account allows
abbrev pub name_key : List ℕ → Row
name_key name = Text name ∷ []

-- the key of what belongs to an account and a commodity
abbrev pub pair_key : List ℕ → List ℕ → Row
pair_key account commodity = Text account ∷ Text commodity ∷ []

-- the key of a lot, and of its opening number
abbrev pub lot_key : List ℕ → List ℕ → LotKey → Row
lot_key account commodity lot =
    Text account ∷ Text commodity ∷ Int lot.day ∷ Text lot.currency ∷ Int (pos lot.number) ∷ Text (label_text lot.label) ∷ []

abbrev pub price_key : List ℕ → List ℕ → ℤ → Row
price_key base quote day = Text base ∷ Text quote ∷ Int day ∷ []

-- the key of a posting of an entry
abbrev pub posting_key : ℕ → ℕ → Row
posting_key entry posting = Int (pos entry) ∷ Int (pos posting) ∷ []

-- ---- rows

-- the row by which a database is told to be a book of an edition; editions are counted from 1
abbrev pub marked : ℤ → BookRow
marked edition = record { mark = codes "lot-book"; edition = edition }

-- the edition of these tables
abbrev pub current_edition : ℤ
current_edition = pos 2

abbrev pub this_edition : BookRow
this_edition = marked current_edition

abbrev pub account_row : List ℕ → Standing → AccountRow
account_row name standing = record { name = name; opened = standing.opened; closed = standing.closed; method = standing.method }

-- currencies as they are written, of which the first has that place
abbrev pub allowed_rows : List ℕ → ℕ → List (List ℕ) → List AllowedRow
allowed_rows account place [] = []
allowed_rows account place (currency ∷ currencies) =
    record { account = account; place = place; commodity = currency } ∷ allowed_rows account (suc place) currencies

abbrev pub commodity_row : List ℕ → ℤ → CommodityRow
commodity_row name day = record { name = name; day = day }

abbrev pub price_row : List ℕ → List ℕ → ℤ → ℕ → PriceRow
price_row base quote day rate = record { base = base; quote = quote; day = day; rate = rate }

abbrev pub entry_row : ℕ → Entry → EntryRow
entry_row number entry =
    record { number = number; source = entry.key.source; name = entry.key.name; body = canonical entry.command }

-- entries in their order, of which the first has that number
abbrev pub entry_rows : ℕ → List Entry → List EntryRow
entry_rows number [] = []
entry_rows number (entry ∷ entries) = entry_row number entry ∷ entry_rows (suc number) entries

abbrev pub leg_row : Leg → LegRow
leg_row leg = record {
  entry = leg.entry;
  posting = leg.posting;
  place = leg.place;
  account = leg.position.account;
  commodity = leg.position.commodity;
  units = leg.units;
  lot = leg.position.lot;
}

-- a sale of an entry of that number, with the place of its posting
abbrev pub sale_row : ℕ × (ℕ × SaleParts) → SaleRow
sale_row sold = record {
  entry = sold.0;
  posting = sold.1.0;
  day = sold.1.1.day;
  account = sold.1.1.account;
  commodity = sold.1.1.commodity;
  units = sold.1.1.units;
  price = sold.1.1.price;
}

abbrev pub lot_row : List ℕ → List ℕ → LotKey → ℤ → LotRow
lot_row account commodity lot units = record { account = account; commodity = commodity; lot = lot; units = units }

abbrev pub plain_row : List ℕ → List ℕ → ℤ → PlainRow
plain_row account commodity units = record { account = account; commodity = commodity; units = units }

abbrev pub head_row : List ℕ → List ℕ → ℤ → HeadRow
head_row account commodity day = record { account = account; commodity = commodity; day = day }

abbrev pub opening_row : List ℕ → List ℕ → LotKey → ℕ → OpeningRow
opening_row account commodity lot opening =
    record { account = account; commodity = commodity; lot = lot; opening = opening }

-- the place of migration: as many entries as the migration found
abbrev pub migration_row : ℕ → MigrationRow
migration_row place = record { entries = place }
