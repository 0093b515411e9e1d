-- What the tables of a book have to agree on with its entries, row by row.
use Rattle.std.specs.Prelude.{◌≡◌, ◌≢◌, ◌≤◌, ℕ, ℤ, List, [], ◌∷◌, length, map, option_map, Option, Some, None, All}
use Rattle.std.specs.List.{AllByRecursion}
use Rattle.sqlite.specs.Order.{Row}
use Rattle.lot_inv.specs.Inventory.{non_zero}
use Rattle.lot_cost.specs.declared.lot_key.LotKey.{LotKey}
use Rattle.lot_command.specs.Sayable.{IsSayable}
use Rattle.lot_book.specs.Book.{IsBookIn}
use Rattle.lot_book.specs.Edition.{After}
use Rattle.lot_book.specs.Facts.{Entry, latest_at_cost, legs_of, opening_of, standing_of}
use Rattle.lot_book.specs.OpeningNumber.{opening_number}
use Rattle.lot_book.specs.Sale.{SaleParts}
use Rattle.lot_book.specs.declared.leg.Position.{Position}
use Rattle.lot_table.specs.Book.{BookTable}
use Rattle.lot_table.specs.Rows.{with_key}
use Rattle.lot_rows.specs.Allowed.{allowed_cells}
use Rattle.lot_rows.specs.Leg.{leg_cells}
use Rattle.lot_rows.specs.LotKey.{IsLotKey}
use Rattle.lot_rows.specs.Tables.{Tables, account_table, commodity_table, head_table, lot_table, opening_table, plain_table, price_table}
use Rattle.lot_rows.specs.declared.account.AccountRow.{AccountRow}
use Rattle.lot_rows.specs.declared.allowed.AllowedRow.{AllowedRow}
use Rattle.lot_rows.specs.declared.commodity.CommodityRow.{CommodityRow}
use Rattle.lot_rows.specs.declared.head.HeadRow.{HeadRow}
use Rattle.lot_rows.specs.declared.leg.LegRow.{LegRow}
use Rattle.lot_rows.specs.declared.lot.LotRow.{LotRow}
use Rattle.lot_rows.specs.declared.opening.OpeningRow.{OpeningRow}
use Rattle.lot_rows.specs.declared.plain.PlainRow.{PlainRow}
use Rattle.lot_rows.specs.declared.price.PriceRow.{PriceRow}
use Rattle.lot_stored.specs.Kept.{SalesOf, currencies_of, declared_on, legs_of_posting, rate_on}
use Rattle.lot_stored.specs.Rows.{account_row, allowed_rows, commodity_row, entry_rows, head_row, leg_row, lot_key, lot_row, migration_row, name_key, opening_row, pair_key, plain_row, posting_key, price_key, price_row, row_at, sale_row, this_edition}
use Rattle.lot_stored.specs.StandFor.{AreGood, AreOrdered, sum_in}

-- ---- one table

-- Each row of a table is the one that a book has under its key, and there is a row under each key
-- under which the book has one. Keys are those that a book can have.
pub record Agrees {X K : Type 0} (t : BookTable Tables X) (key : K → Row) (of : X → K)
    (IsKey : K → Type 0) (row : K → Option X) (tables : Tables) : Type 0 where
  pub each : AllByRecursion (λ (x : X). row (of x) ≡ Some x) (t.rows tables)
  pub every : (k : K) → IsKey k → row k ≢ None → row_at t (key k) tables ≢ None

abbrev pub any_key : {K : Type 0} → K → Type 0
any_key k = Unit {0}

-- ---- keys

-- an account and a commodity
abbrev pub PairKey : Type 0
PairKey = List ℕ × List ℕ

-- a base, a quote and a day
abbrev pub PriceKey : Type 0
PriceKey = List ℕ × List ℕ × ℤ

-- an account, a commodity and a lot
abbrev pub LotPlace : Type 0
LotPlace = List ℕ × List ℕ × LotKey

abbrev pub is_lot_place : LotPlace → Type 0
is_lot_place place = IsLotKey place.2

abbrev pub position_of : LotPlace → Position
position_of place = record { account = place.0; commodity = place.1; lot = Some place.2 }

abbrev pub plain_of : PairKey → Position
plain_of pair = record { account = pair.0; commodity = pair.1; lot = None }

-- ---- each table

abbrev pub AccountsAgree : List Entry → Tables → Type 0
AccountsAgree entries =
    Agrees account_table name_key (λ (row : AccountRow). row.name) any_key
    (λ name. option_map (account_row name) (standing_of entries name))

abbrev pub CommoditiesAgree : List Entry → Tables → Type 0
CommoditiesAgree entries =
    Agrees commodity_table name_key (λ (row : CommodityRow). row.name) any_key
    (λ name. option_map (commodity_row name) (declared_on entries name))

abbrev pub PricesAgree : List Entry → Tables → Type 0
PricesAgree entries =
    Agrees price_table (λ (k : PriceKey). price_key k.0 k.1 k.2)
    (λ (row : PriceRow). (row.base, row.quote, row.day)) any_key
    (λ (k : PriceKey). option_map (price_row k.0 k.1 k.2) (rate_on entries k.0 k.1 k.2))

abbrev pub LotsAgree : List Entry → Tables → Type 0
LotsAgree entries =
    Agrees lot_table (λ (k : LotPlace). lot_key k.0 k.1 k.2)
    (λ (row : LotRow). (row.account, row.commodity, row.lot)) is_lot_place
    (λ (k : LotPlace). option_map (lot_row k.0 k.1 k.2) (non_zero (sum_in entries (position_of k))))

abbrev pub PlainAgree : List Entry → Tables → Type 0
PlainAgree entries =
    Agrees plain_table (λ (k : PairKey). pair_key k.0 k.1)
    (λ (row : PlainRow). (row.account, row.commodity)) any_key
    (λ (k : PairKey). option_map (plain_row k.0 k.1) (non_zero (sum_in entries (plain_of k))))

abbrev pub OpeningsAgree : List Entry → Tables → Type 0
OpeningsAgree entries =
    Agrees opening_table (λ (k : LotPlace). lot_key k.0 k.1 k.2)
    (λ (row : OpeningRow). (row.account, row.commodity, row.lot)) is_lot_place
    (λ (k : LotPlace). option_map (opening_row k.0 k.1 k.2)
    (opening_number (legs_of entries) (position_of k)))

abbrev pub HeadsAgree : List Entry → Tables → Type 0
HeadsAgree entries =
    Agrees head_table (λ (k : PairKey). pair_key k.0 k.1)
    (λ (row : HeadRow). (row.account, row.commodity)) any_key
    (λ (k : PairKey). option_map (head_row k.0 k.1) (latest_at_cost entries k.0 k.1))

-- the rows of an account that is opened are its currencies, and no other account has any
pub record AllowedAgree (entries : List Entry) (tables : Tables) : Type 0 where
  pub each : AllByRecursion (λ (row : AllowedRow). opening_of entries row.account ≢ None) tables.allowed
  pub every : (account : List ℕ) → opening_of entries account ≢ None
      → with_key allowed_cells 1 (name_key account) tables.allowed
      ≡ allowed_rows account 0 (currencies_of entries account)

-- a row is of some entry, and the rows of a posting of an entry are its legs
pub record LegsAgree (entries : List Entry) (tables : Tables) : Type 0 where
  pub each : AllByRecursion (λ (row : LegRow). row.entry ≤ length entries) tables.leg
  pub every : (entry posting : ℕ) → 1 ≤ entry → entry ≤ length entries
      → with_key leg_cells 2 (posting_key entry posting) tables.leg
      ≡ map leg_row (legs_of_posting entry posting (legs_of entries))

-- ---- all of them

-- The tables agree on these entries, which are a book with that place of migration.
pub record AllAgree (place : ℕ) (tables : Tables) (entries : List Entry) : Type 0 where
  pub good : AreGood tables
  pub ordered : AreOrdered tables
  pub said : All (λ (entry : Entry). IsSayable entry.command) entries
  pub book : tables.book ≡ this_edition ∷ []
  pub placed : place ≤ length entries
  pub judged : IsBookIn (After place) entries
  pub migration : tables.migration ≡ migration_row place ∷ []
  pub entry : tables.entry ≡ entry_rows 1 entries
  pub account : AccountsAgree entries tables
  pub allowed : AllowedAgree entries tables
  pub commodity : CommoditiesAgree entries tables
  pub price : PricesAgree entries tables
  pub leg : LegsAgree entries tables
  pub sales : List (ℕ × (ℕ × SaleParts))
  pub sold : SalesOf (After place) entries sales
  pub sale : tables.sale ≡ map sale_row sales
  pub lot : LotsAgree entries tables
  pub plain : PlainAgree entries tables
  pub opening : OpeningsAgree entries tables
  pub head : HeadsAgree entries tables
