-- What a view says under the keys of rows, as rows.
use Rattle.std.specs.Prelude.{◌≡◌, ◌≢◌, ◌≤◌, ℕ, pos, true, List, Option, None, Some, map, option_map, All}
use Rattle.std.specs.List.{AllByRecursion}
use Rattle.sqlite.specs.Order.{Row}
use Rattle.lot_cost.specs.declared.lot_key.LotKey.{LotKey}
use Rattle.lot_inv.specs.Inventory.{non_zero, units_at}
use Rattle.lot_book.specs.declared.holding.Holding.{Holding}
use Rattle.lot_rows.specs.Account.{IsAccountRow, account_cells}
use Rattle.lot_rows.specs.Allowed.{IsAllowedRow, allowed_cells}
use Rattle.lot_rows.specs.Commodity.{IsCommodityRow, commodity_cells}
use Rattle.lot_rows.specs.Head.{IsHeadRow, head_cells}
use Rattle.lot_rows.specs.Leg.{IsLegRow, leg_cells}
use Rattle.lot_rows.specs.Lot.{IsLotRow, lot_cells}
use Rattle.lot_rows.specs.Opening.{IsOpeningRow, opening_cells}
use Rattle.lot_rows.specs.Plain.{IsPlainRow, plain_cells}
use Rattle.lot_rows.specs.Price.{IsPriceRow, price_cells}
use Rattle.lot_rows.specs.Tables.{Tables, lot_table, opening_table, plain_table}
use Rattle.lot_rows.specs.declared.account.AccountRow.{AccountRow}
use Rattle.lot_rows.specs.declared.allowed.AllowedRow.{AllowedRow}
use Rattle.lot_rows.specs.declared.commodity.CommodityRow.{CommodityRow}
use Rattle.lot_rows.specs.declared.head.HeadRow.{HeadRow}
use Rattle.lot_rows.specs.declared.leg.LegRow.{LegRow}
use Rattle.lot_rows.specs.declared.lot.LotRow.{LotRow}
use Rattle.lot_rows.specs.declared.opening.OpeningRow.{OpeningRow}
use Rattle.lot_rows.specs.declared.plain.PlainRow.{PlainRow}
use Rattle.lot_rows.specs.declared.price.PriceRow.{PriceRow}
use Rattle.lot_stored.specs.Rows.{account_row, head_row, lot_key, lot_row, opening_row, pair_key, plain_row, row_at}
use Rattle.lot_view.specs.View.{known, known_with_openings}
use Rattle.lot_view.specs.declared.view.View.{View}
use Rattle.lot_audit.specs.Rates.{price_told}
use Rattle.lot_audit.specs.declared.rates.Rates.{Rates}

-- ---- one row

-- the row of an account
abbrev pub account_told : View → List ℕ → Option AccountRow
account_told view name = option_map (account_row name) ((known view).standing name)

-- the row of a latest day at cost
abbrev pub head_told : View → List ℕ → List ℕ → Option HeadRow
head_told view account commodity =
    option_map (head_row account commodity) ((known view).latest_at_cost account commodity)

-- the row of a lot, and of plain units
abbrev pub lot_told : View → List ℕ → List ℕ → LotKey → Option LotRow
lot_told view account commodity lot =
    option_map (lot_row account commodity lot)
    (non_zero (units_at ((known view).held account) (commodity, Some lot)))

abbrev pub plain_told : View → List ℕ → List ℕ → Option PlainRow
plain_told view account commodity =
    option_map (plain_row account commodity)
    (non_zero (units_at ((known view).held account) (commodity, None)))

-- the row of the opening number of a lot that is held
abbrev pub opening_told : View → List ℕ → List ℕ → LotKey → Option OpeningRow
opening_told view account commodity lot =
    option_map
    (λ (_ : LotRow). opening_row account commodity lot ((known_with_openings view).opening account commodity lot))
    (lot_told view account commodity lot)

-- ---- each row of a table

abbrev pub TellsAccount : View → AccountRow → Type 0
TellsAccount view row = account_told view row.name ≡ Some row

-- of an account's currencies only that it was opened
abbrev pub TellsAllowed : View → AllowedRow → Type 0
TellsAllowed view row = (known view).standing row.account ≢ None

-- of a commodity only that it was declared
abbrev pub TellsCommodity : View → CommodityRow → Type 0
TellsCommodity view row = (known view).is_declared row.name ≡ true

abbrev pub TellsPrice : Rates → PriceRow → Type 0
TellsPrice rates row = price_told rates row.base row.quote row.day ≡ Some row

abbrev pub TellsHead : View → HeadRow → Type 0
TellsHead view row = head_told view row.account row.commodity ≡ Some row

abbrev pub TellsLot : View → LotRow → Type 0
TellsLot view row = lot_told view row.account row.commodity row.lot ≡ Some row

abbrev pub TellsPlain : View → PlainRow → Type 0
TellsPlain view row = plain_told view row.account row.commodity ≡ Some row

abbrev pub TellsOpening : View → OpeningRow → Type 0
TellsOpening view row = opening_told view row.account row.commodity row.lot ≡ Some row

-- a leg is of one of so many entries
abbrev pub IsOfEntries : ℕ → LegRow → Type 0
IsOfEntries entries row = row.entry ≤ entries

-- Each row of these tables says what the view and the rates say under its key.
pub record RowsTold (view : View) (rates : Rates) (tables : Tables) : Type 0 where
  pub account : AllByRecursion (TellsAccount view) tables.account
  pub allowed : AllByRecursion (TellsAllowed view) tables.allowed
  pub commodity : AllByRecursion (TellsCommodity view) tables.commodity
  pub price : AllByRecursion (TellsPrice rates) tables.price
  pub lot : AllByRecursion (TellsLot view) tables.lot
  pub plain : AllByRecursion (TellsPlain view) tables.plain
  pub head : AllByRecursion (TellsHead view) tables.head
  pub opening : AllByRecursion (TellsOpening view) tables.opening

-- ---- rows by their columns

-- There are rows with these columns that a book can have, each of which tells it.
pub record AreTold {X : Type 0} (encode : X → Row) (IsGood Tells : X → Type 0) (rows : List X) : Type 0 where
  pub good_rows : List X
  pub same : map encode good_rows ≡ map encode rows
  pub good : All IsGood good_rows
  pub told : All Tells good_rows

abbrev pub AccountsTold : View → Tables → Type 0
AccountsTold view tables = AreTold account_cells IsAccountRow (TellsAccount view) tables.account

abbrev pub AllowedTold : View → Tables → Type 0
AllowedTold view tables = AreTold allowed_cells IsAllowedRow (TellsAllowed view) tables.allowed

abbrev pub CommoditiesTold : View → Tables → Type 0
CommoditiesTold view tables = AreTold commodity_cells IsCommodityRow (TellsCommodity view) tables.commodity

abbrev pub PricesTold : Rates → Tables → Type 0
PricesTold rates tables = AreTold price_cells IsPriceRow (TellsPrice rates) tables.price

abbrev pub HeadsTold : View → Tables → Type 0
HeadsTold view tables = AreTold head_cells IsHeadRow (TellsHead view) tables.head

abbrev pub LotsTold : View → Tables → Type 0
LotsTold view tables = AreTold lot_cells IsLotRow (TellsLot view) tables.lot

abbrev pub PlainTold : View → Tables → Type 0
PlainTold view tables = AreTold plain_cells IsPlainRow (TellsPlain view) tables.plain

abbrev pub OpeningsTold : View → Tables → Type 0
OpeningsTold view tables = AreTold opening_cells IsOpeningRow (TellsOpening view) tables.opening

abbrev pub LegsWithin : ℕ → Tables → Type 0
LegsWithin entries tables = AreTold leg_cells IsLegRow (IsOfEntries entries) tables.leg

-- what a view tells by names, and what by amounts
pub record NamesTold (view : View) (tables : Tables) : Type 0 where
  pub account : AccountsTold view tables
  pub allowed : AllowedTold view tables
  pub commodity : CommoditiesTold view tables
  pub head : HeadsTold view tables

pub record AmountsTold (view : View) (rates : Rates) (tables : Tables) : Type 0 where
  pub price : PricesTold rates tables
  pub lot : LotsTold view tables
  pub plain : PlainTold view tables
  pub opening : OpeningsTold view tables

-- ---- what is held

-- a lot has its row and the row of its opening number
abbrev pub LotHasRows : List ℕ → List ℕ → LotKey → Tables → Type 0
LotHasRows account commodity lot tables =
    (row_at lot_table (lot_key account commodity lot) tables ≢ None)
    × (row_at opening_table (lot_key account commodity lot) tables ≢ None)

abbrev pub PlainHasRow : List ℕ → List ℕ → Tables → Type 0
PlainHasRow account commodity tables = row_at plain_table (pair_key account commodity) tables ≢ None

-- the rows of what is held at one place
abbrev pub HasItsRows : List ℕ → List ℕ → Option LotKey → Tables → Type 0
HasItsRows account commodity (Some lot) tables = LotHasRows account commodity lot tables
HasItsRows account commodity None tables = PlainHasRow account commodity tables

abbrev pub HoldingHasRows : Tables → Holding → Type 0
HoldingHasRows tables holding = HasItsRows holding.account holding.commodity holding.lot tables

-- each position that holds some has its rows
abbrev pub HeldHasRows : View → Tables → Type 0
HeldHasRows view tables = (account commodity : List ℕ) (lot : Option LotKey)
    → units_at ((known view).held account) (commodity, lot) ≢ pos 0 → HasItsRows account commodity lot tables
