-- Tables stand for a book: one equation for each table (docs/FORMATS.md, Tables). What a table holds is what the column
-- 'Its rows stand for' names over all entries: no row more, none less.
use Rattle.std.specs.Prelude.{◌≡◌, ◌≤◌, ℕ, ℤ, List, [], ◌∷◌, length, map, option_map, Some, None, All}
use Rattle.std.specs.declared.cmp.Ordering.TheVariants.{Less}
use Rattle.sqlite.specs.State.{State}
use Rattle.sqlite.specs.Tree.{IsAscending, Trees}
use Rattle.lot_inv.specs.Inventory.{non_zero}
use Rattle.lot_cost.specs.declared.lot_key.LotKey.{LotKey}
use Rattle.lot_book.specs.Book.{IsBook, IsBookIn}
use Rattle.lot_book.specs.Edition.{After}
use Rattle.lot_book.specs.Facts.{Entry, latest_at_cost, legs_of, standing_of}
use Rattle.lot_book.specs.Leg.{sum_at}
use Rattle.lot_book.specs.OpeningNumber.{opening_number}
use Rattle.lot_book.specs.Sale.{SaleParts}
use Rattle.lot_book.specs.declared.leg.Position.{Position}
use Rattle.lot_command.specs.Sayable.{IsSayable}
use Rattle.lot_table.specs.Book.{BookTable, Holds}
use Rattle.lot_table.specs.Rows.{key_order, with_key}
use Rattle.lot_rows.specs.Account.{IsAccountRow}
use Rattle.lot_rows.specs.Allowed.{IsAllowedRow, allowed_cells}
use Rattle.lot_rows.specs.Commodity.{IsCommodityRow}
use Rattle.lot_rows.specs.Entry.{IsEntryRow}
use Rattle.lot_rows.specs.Head.{IsHeadRow}
use Rattle.lot_rows.specs.Leg.{IsLegRow, leg_cells}
use Rattle.lot_rows.specs.Lot.{IsLotRow}
use Rattle.lot_rows.specs.LotKey.{IsLotKey}
use Rattle.lot_rows.specs.Opening.{IsOpeningRow}
use Rattle.lot_rows.specs.Plain.{IsPlainRow}
use Rattle.lot_rows.specs.Price.{IsPriceRow}
use Rattle.lot_rows.specs.Sale.{IsSaleRow}
use Rattle.lot_rows.specs.Tables.{Has, Tables, account_table, allowed_table, commodity_table, entry_table, head_table, layout, leg_table, lot_table, opening_table, plain_table, price_table, sale_table}
use Rattle.lot_stored.specs.Kept.{SalesOf, currencies_of, declared_on, legs_of_posting, rate_on}
use Rattle.lot_stored.specs.Rows.{account_row, allowed_rows, commodity_row, entry_rows, head_row, leg_row, lot_key, lot_row, migration_row, name_key, opening_row, pair_key, plain_row, posting_key, price_key, price_row, row_at, sale_row, this_edition}

-- ---- rows that a book can have

pub record AreGood (tables : Tables) : Type 0 where
  pub account : All IsAccountRow tables.account
  pub allowed : All IsAllowedRow tables.allowed
  pub commodity : All IsCommodityRow tables.commodity
  pub price : All IsPriceRow tables.price
  pub entry : All IsEntryRow tables.entry
  pub leg : All IsLegRow tables.leg
  pub sale : All IsSaleRow tables.sale
  pub lot : All IsLotRow tables.lot
  pub plain : All IsPlainRow tables.plain
  pub head : All IsHeadRow tables.head
  pub opening : All IsOpeningRow tables.opening

-- ---- the order of rows

-- the rows of a table are in the order of their keys, no two of which are the same
abbrev pub IsOrdered : {X : Type 0} → BookTable Tables X → Tables → Type 0
IsOrdered t tables = IsAscending (λ a b. key_order t.width (t.encode a) (t.encode b) ≡ Less) (t.rows tables)

pub record AreOrdered (tables : Tables) : Type 0 where
  pub account : IsOrdered account_table tables
  pub allowed : IsOrdered allowed_table tables
  pub commodity : IsOrdered commodity_table tables
  pub price : IsOrdered price_table tables
  pub entry : IsOrdered entry_table tables
  pub leg : IsOrdered leg_table tables
  pub sale : IsOrdered sale_table tables
  pub lot : IsOrdered lot_table tables
  pub plain : IsOrdered plain_table tables
  pub head : IsOrdered head_table tables
  pub opening : IsOrdered opening_table tables

-- ---- the book

-- what legs put into a position of an account
abbrev pub sum_in : List Entry → Position → ℤ
sum_in entries position = sum_at (legs_of entries) position

pub record StandFor (tables : Tables) (entries : List Entry) : Type 0 where
  pub good : AreGood tables
  pub ordered : AreOrdered tables
  -- commands within the rules of ledger text, as each command is
  pub said : All (λ (entry : Entry). IsSayable entry.command) entries
  pub book : tables.book ≡ this_edition ∷ []
  -- the entries up to the place of migration are steps of edition 1, those behind it of edition 2
  pub place : ℕ
  pub placed : place ≤ length entries
  pub judged : IsBookIn (After place) entries
  pub migration : tables.migration ≡ migration_row place ∷ []
  -- how each account stands that was opened, and the currencies with which it was
  pub account : (name : List ℕ) → row_at account_table (name_key name) tables ≡ option_map (account_row name) (standing_of entries name)
  pub allowed : (account : List ℕ) → with_key allowed_cells 1 (name_key account) tables.allowed ≡ allowed_rows account 0 (currencies_of entries account)
  pub commodity : (name : List ℕ) → row_at commodity_table (name_key name) tables ≡ option_map (commodity_row name) (declared_on entries name)
  -- the last price of each pair and day
  pub price : (base quote : List ℕ) (day : ℤ) → row_at price_table (price_key base quote day) tables ≡ option_map (price_row base quote day) (rate_on entries base quote day)
  pub entry : tables.entry ≡ entry_rows 1 entries
  -- the legs of each posting of each entry, in their order
  pub leg : (entry posting : ℕ) → with_key leg_cells 2 (posting_key entry posting) tables.leg ≡ map leg_row (legs_of_posting entry posting (legs_of entries))
  pub sales : List (ℕ × (ℕ × SaleParts))
  pub sold : SalesOf (After place) entries sales
  pub sale : tables.sale ≡ map sale_row sales
  -- the sum of the legs at each lot, and of the plain legs, where it isn't zero
  pub lot : (account commodity : List ℕ) (lot : LotKey) → IsLotKey lot
      → row_at lot_table (lot_key account commodity lot) tables
      ≡ option_map (lot_row account commodity lot) (non_zero (sum_in entries (record { account = account; commodity = commodity; lot = Some lot })))
  pub plain : (account commodity : List ℕ)
      → row_at plain_table (pair_key account commodity) tables
      ≡ option_map (plain_row account commodity) (non_zero (sum_in entries (record { account = account; commodity = commodity; lot = None })))
  -- the opening number of each lot that holds some
  pub opening : (account commodity : List ℕ) (lot : LotKey) → IsLotKey lot
      → row_at opening_table (lot_key account commodity lot) tables
      ≡ option_map (opening_row account commodity lot)
      (opening_number (legs_of entries) (record { account = account; commodity = commodity; lot = Some lot }))
  -- the latest day of a posting with braces
  pub head : (account commodity : List ℕ) → row_at head_table (pair_key account commodity) tables ≡ option_map (head_row account commodity) (latest_at_cost entries account commodity)

-- ---- files

-- a database with the tables of a book alone, which stand for this one
pub record Stands (s : State) (entries : List Entry) : Type 0 where
  pub book : IsBook entries
  pub tables : Tables
  pub has : Has s tables
  pub stand : StandFor tables entries

-- the same of what a crash leaves
pub record Left (trees : Trees) (entries : List Entry) : Type 0 where
  pub book : IsBook entries
  pub tables : Tables
  pub holds : Holds layout trees tables
  pub stand : StandFor tables entries

-- the tables of some book
abbrev pub AreOfBook : Tables → Type 0
AreOfBook tables = (entries : List Entry) × IsBook entries × StandFor tables entries
