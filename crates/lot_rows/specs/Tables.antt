-- The tables of a book, as the lists of their rows in the order of their keys (docs/FORMATS.md, Tables).
use Rattle.std.specs.Prelude.{ℕ, ◌+◌, List, [], ◌∷◌, ◌++◌, map, take, codes}
use Rattle.sqlite.specs.State.{State}
use Rattle.sqlite.specs.Table.{Table}
use Rattle.sqlite_schema.specs.declared.schema.Column.{Column}
use Rattle.lot_table.specs.Call.{LacksKey}
use Rattle.lot_table.specs.Book.{BookTable, Has as HasLists, Layout, Slot}
use Rattle.lot_table.specs.Shape.{Shape, maybe_number, maybe_text, number, schema_of, table, text, trees_of}
use Rattle.lot_rows.specs.Account.{account_cells}
use Rattle.lot_rows.specs.Allowed.{allowed_cells}
use Rattle.lot_rows.specs.Book.{book_cells}
use Rattle.lot_rows.specs.Commodity.{commodity_cells}
use Rattle.lot_rows.specs.Entry.{IsUnnamed, entry_cells}
use Rattle.lot_rows.specs.Head.{head_cells}
use Rattle.lot_rows.specs.Leg.{leg_cells}
use Rattle.lot_rows.specs.Lot.{lot_cells}
use Rattle.lot_rows.specs.Migration.{migration_cells}
use Rattle.lot_rows.specs.Opening.{opening_cells}
use Rattle.lot_rows.specs.Plain.{plain_cells}
use Rattle.lot_rows.specs.Price.{price_cells}
use Rattle.lot_rows.specs.Sale.{sale_cells}
use Rattle.lot_rows.specs.declared.account.AccountRow.{AccountRow}
use Rattle.lot_rows.specs.declared.allowed.AllowedRow.{AllowedRow}
use Rattle.lot_rows.specs.declared.book.BookRow.{BookRow}
use Rattle.lot_rows.specs.declared.commodity.CommodityRow.{CommodityRow}
use Rattle.lot_rows.specs.declared.entry.EntryRow.{EntryRow}
use Rattle.lot_rows.specs.declared.head.HeadRow.{HeadRow}
use Rattle.lot_rows.specs.declared.leg.LegRow.{LegRow}
use Rattle.lot_rows.specs.declared.lot.LotRow.{LotRow}
use Rattle.lot_rows.specs.declared.migration.MigrationRow.{MigrationRow}
use Rattle.lot_rows.specs.declared.opening.OpeningRow.{OpeningRow}
use Rattle.lot_rows.specs.declared.plain.PlainRow.{PlainRow}
use Rattle.lot_rows.specs.declared.price.PriceRow.{PriceRow}
use Rattle.lot_rows.specs.declared.sale.SaleRow.{SaleRow}

-- ---- the lists

pub record Tables : Type 0 where
  pub book : List BookRow
  pub account : List AccountRow
  pub allowed : List AllowedRow
  pub commodity : List CommodityRow
  pub price : List PriceRow
  pub entry : List EntryRow
  pub leg : List LegRow
  pub sale : List SaleRow
  pub lot : List LotRow
  pub plain : List PlainRow
  pub head : List HeadRow
  pub opening : List OpeningRow
  pub migration : List MigrationRow

-- ---- the shapes

abbrev pub shape : List ℕ → List Column → List (List ℕ) → Shape
shape name columns keys = record { name = name; columns = columns; keys = keys }

abbrev pub book_shape : Shape
book_shape = shape (codes "book") (text (codes "mark") ∷ number (codes "edition") ∷ []) ((1 ∷ []) ∷ [])

abbrev pub account_shape : Shape
account_shape = shape (codes "account") (text (codes "name") ∷ number (codes "opened") ∷ maybe_number (codes "closed") ∷ text (codes "method") ∷ []) ((1 ∷ []) ∷ [])

abbrev pub allowed_shape : Shape
allowed_shape = shape (codes "allowed") (text (codes "account") ∷ number (codes "place") ∷ text (codes "commodity") ∷ []) ((1 ∷ 2 ∷ []) ∷ [])

abbrev pub commodity_shape : Shape
commodity_shape = shape (codes "commodity") (text (codes "name") ∷ number (codes "day") ∷ []) ((1 ∷ []) ∷ [])

abbrev pub price_shape : Shape
price_shape = shape (codes "price") (text (codes "base") ∷ text (codes "quote") ∷ number (codes "day") ∷ number (codes "rate") ∷ []) ((1 ∷ 2 ∷ 3 ∷ []) ∷ [])

abbrev pub entry_shape : Shape
entry_shape = shape (codes "entry") (number (codes "number") ∷ text (codes "source") ∷ text (codes "name") ∷ text (codes "body") ∷ []) ((1 ∷ []) ∷ (2 ∷ 3 ∷ []) ∷ [])

abbrev pub leg_shape : Shape
leg_shape =
    shape (codes "leg")
    (number (codes "entry") ∷ number (codes "posting") ∷ number (codes "place") ∷ text (codes "account") ∷ text (codes "commodity") ∷ number (codes "units")
    ∷ maybe_number (codes "cost_number") ∷ maybe_text (codes "cost_currency") ∷ maybe_number (codes "cost_day") ∷ maybe_text (codes "cost_label") ∷ [])
    ((1 ∷ 2 ∷ 3 ∷ []) ∷ [])

abbrev pub sale_shape : Shape
sale_shape =
    shape (codes "sale")
    (number (codes "entry") ∷ number (codes "posting") ∷ number (codes "day") ∷ text (codes "account") ∷ text (codes "commodity") ∷ number (codes "units")
    ∷ number (codes "kind") ∷ maybe_number (codes "amount") ∷ maybe_text (codes "currency") ∷ [])
    ((1 ∷ 2 ∷ []) ∷ [])

-- a table of lots: the key of each, and a number
abbrev pub of_lots : List ℕ → List ℕ → Shape
of_lots name value =
    shape name
    (text (codes "account") ∷ text (codes "commodity") ∷ number (codes "cost_day") ∷ text (codes "cost_currency") ∷ number (codes "cost_number") ∷ text (codes "cost_label")
    ∷ number value ∷ [])
    ((1 ∷ 2 ∷ 3 ∷ 4 ∷ 5 ∷ 6 ∷ []) ∷ [])

abbrev pub lot_shape : Shape
lot_shape = of_lots (codes "lot") (codes "units")

abbrev pub plain_shape : Shape
plain_shape = shape (codes "plain") (text (codes "account") ∷ text (codes "commodity") ∷ number (codes "units") ∷ []) ((1 ∷ 2 ∷ []) ∷ [])

abbrev pub head_shape : Shape
head_shape = shape (codes "head") (text (codes "account") ∷ text (codes "commodity") ∷ number (codes "day") ∷ []) ((1 ∷ 2 ∷ []) ∷ [])

abbrev pub opening_shape : Shape
opening_shape = of_lots (codes "opening") (codes "opening")

abbrev pub migration_shape : Shape
migration_shape = shape (codes "migration") (number (codes "entries") ∷ []) ((1 ∷ []) ∷ [])

-- in the order of their making: those of edition 1, and those behind them
abbrev pub first_shapes : List Shape
first_shapes =
    book_shape ∷ account_shape ∷ allowed_shape ∷ commodity_shape ∷ price_shape ∷ entry_shape ∷ leg_shape ∷ sale_shape ∷ lot_shape ∷ plain_shape ∷ head_shape ∷ []

abbrev pub later_shapes : List Shape
later_shapes = opening_shape ∷ migration_shape ∷ []

abbrev pub shapes : List Shape
shapes = first_shapes ++ later_shapes

abbrev pub table_names : List (List ℕ)
table_names = map (λ s. s.name) shapes

abbrev pub later_names : List (List ℕ)
later_names = map (λ s. s.name) later_shapes

-- ---- the tables, each in its tree; its indexes are in the trees after it

-- the first tree behind all of those that tables of these shapes take
abbrev first_tree : List Shape → ℕ
first_tree [] = 0
first_tree (shape ∷ shapes) = trees_of shape + first_tree shapes

-- the table that is made behind so many others
abbrev made : ℕ → Shape → Table
made place shape = table (first_tree (take place shapes)) shape

abbrev pub book_table : BookTable Tables BookRow
book_table = record { table = made 0 book_shape; encode = book_cells; width = 1; rows = λ b. b.book; with_rows = λ rows b. record b { book = rows } }

abbrev pub account_table : BookTable Tables AccountRow
account_table = record { table = made 1 account_shape; encode = account_cells; width = 1; rows = λ b. b.account; with_rows = λ rows b. record b { account = rows } }

abbrev pub allowed_table : BookTable Tables AllowedRow
allowed_table = record { table = made 2 allowed_shape; encode = allowed_cells; width = 2; rows = λ b. b.allowed; with_rows = λ rows b. record b { allowed = rows } }

abbrev pub commodity_table : BookTable Tables CommodityRow
commodity_table = record { table = made 3 commodity_shape; encode = commodity_cells; width = 1; rows = λ b. b.commodity; with_rows = λ rows b. record b { commodity = rows } }

abbrev pub price_table : BookTable Tables PriceRow
price_table = record { table = made 4 price_shape; encode = price_cells; width = 3; rows = λ b. b.price; with_rows = λ rows b. record b { price = rows } }

abbrev pub entry_table : BookTable Tables EntryRow
entry_table = record { table = made 5 entry_shape; encode = entry_cells; width = 1; rows = λ b. b.entry; with_rows = λ rows b. record b { entry = rows } }

-- no entry has the number of this one, or its source and name
abbrev pub IsNewEntry : EntryRow → Tables → Type 0
IsNewEntry row tables = LacksKey entry_table row tables × IsUnnamed row tables.entry

abbrev pub leg_table : BookTable Tables LegRow
leg_table = record { table = made 6 leg_shape; encode = leg_cells; width = 3; rows = λ b. b.leg; with_rows = λ rows b. record b { leg = rows } }

abbrev pub sale_table : BookTable Tables SaleRow
sale_table = record { table = made 7 sale_shape; encode = sale_cells; width = 2; rows = λ b. b.sale; with_rows = λ rows b. record b { sale = rows } }

abbrev pub lot_table : BookTable Tables LotRow
lot_table = record { table = made 8 lot_shape; encode = lot_cells; width = 6; rows = λ b. b.lot; with_rows = λ rows b. record b { lot = rows } }

abbrev pub plain_table : BookTable Tables PlainRow
plain_table = record { table = made 9 plain_shape; encode = plain_cells; width = 2; rows = λ b. b.plain; with_rows = λ rows b. record b { plain = rows } }

abbrev pub head_table : BookTable Tables HeadRow
head_table = record { table = made 10 head_shape; encode = head_cells; width = 2; rows = λ b. b.head; with_rows = λ rows b. record b { head = rows } }

abbrev pub opening_table : BookTable Tables OpeningRow
opening_table = record { table = made 11 opening_shape; encode = opening_cells; width = 6; rows = λ b. b.opening; with_rows = λ rows b. record b { opening = rows } }

abbrev pub migration_table : BookTable Tables MigrationRow
migration_table = record { table = made 12 migration_shape; encode = migration_cells; width = 1; rows = λ b. b.migration; with_rows = λ rows b. record b { migration = rows } }

-- ---- the layout

abbrev slot : {X : Type 0} → BookTable Tables X → Tables → Slot
slot t b = record { tree = t.table.tree; width = t.width; rows = map t.encode (t.rows b) }

abbrev first_slots : Tables → List Slot
first_slots b =
    slot book_table b ∷ slot account_table b ∷ slot allowed_table b ∷ slot commodity_table b ∷ slot price_table b ∷ slot entry_table b
    ∷ slot leg_table b ∷ slot sale_table b ∷ slot lot_table b ∷ slot plain_table b ∷ slot head_table b ∷ []

abbrev later_slots : Tables → List Slot
later_slots b = slot opening_table b ∷ slot migration_table b ∷ []

-- a book of edition 1: it has the lists of its tables, and says nothing of the two others
abbrev pub first_layout : Layout Tables
first_layout = record { schema = schema_of first_shapes; slots = first_slots }

abbrev pub layout : Layout Tables
layout = record { schema = schema_of shapes; slots = λ b. first_slots b ++ later_slots b }

-- a connection to this book, whose lists are these
abbrev pub Has : State → Tables → Type 0
Has = HasLists layout

-- the same of a book of edition 1
abbrev pub HasFirst : State → Tables → Type 0
HasFirst = HasLists first_layout

-- a book with no rows
abbrev pub no_rows_yet : Tables
no_rows_yet = record {
  book = [];
  account = [];
  allowed = [];
  commodity = [];
  price = [];
  entry = [];
  leg = [];
  sale = [];
  lot = [];
  plain = [];
  head = [];
  opening = [];
  migration = [];
}
