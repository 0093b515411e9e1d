-- The prices of a book at a day, as rows.
use Rattle.std.specs.Prelude.{◌≡◌, ◌<ℤ◌, ◌≤ℤ◌, ℕ, Bool, true, false, if◌then◌else◌, List, [], ◌∷◌, ◌++◌, filter, map, Option, None, Some, Result, Ok, Err, ℤ, int_lt, not}
use Rattle.std.specs.declared.cmp.Ordering.{Ordering}
use Rattle.std.specs.BTreeMap.{is_at}
use Rattle.std.specs.List.{list_any}
use Rattle.std.specs.List.Sorted.{IsStrictlySortedBy}
use Rattle.std.specs.Map.{lookup}
use Rattle.std.specs.Option.{option_to_list}
use Rattle.std.specs.Ordering.{is_eq, ordering_then}
use Rattle.sqlite.specs.State.{HasCleanDisk, State}
use Rattle.lot_base.specs.Text.{text_cmp}
use Rattle.lot_book.specs.Facts.{Entry}
use Rattle.lot_stored.specs.Kept.{rate_on}
use Rattle.lot_page.specs.Cursor.{IsBehind, Place}
use Rattle.lot_rows.specs.Price.{price_cells}
use Rattle.lot_rows.specs.Tables.{Tables}
use Rattle.lot_rows.specs.declared.price.PriceRow.{PriceRow}
use Rattle.lot_table.specs.declared.fault.Fault.{Fault}
use Rattle.lot_table.specs.declared.fault.Fault.TheVariants.{Damaged, Device}
use Rattle.lot_walk.specs.Place.{KeepsRows, Went}
use Rattle.lot_walk.specs.Step.{StaysOrGoesBack, Steps, StepsOverRows}
use Rattle.lot_walk.specs.declared.prices.PricesPlace.{PricesPlace}
use Rattle.lot_walk.specs.declared.prices.PriceStep.{PriceStep}
use Rattle.lot_walk.specs.declared.prices.PriceStep.TheVariants.{Gives, Passed}
use Rattle.lot_walk.specs.declared.price.PairPrice.{PairPrice}

-- the order of pairs of base and quote, by their bytes
abbrev pub pair_cmp : List ℕ × List ℕ → List ℕ × List ℕ → Ordering
pair_cmp p q = ordering_then (text_cmp p.0 q.0) (text_cmp p.1 q.1)

abbrev pub pair_of : PairPrice → List ℕ × List ℕ
pair_of price = (price.base, price.quote)

abbrev pub entry_of : PairPrice → (List ℕ × List ℕ) × ℕ
entry_of price = (pair_of price, price.rate)

-- The price of a pair at a day: the rate that was quoted last on the greatest day that isn't after it, of those with a rate.
-- There is none where none was quoted up to the day. What was quoted for the pair turned round doesn't count.
abbrev pub IsPriceAt : List Entry → ℤ → List ℕ × List ℕ → Option ℕ → Type 0
IsPriceAt entries day pair None = (on : ℤ) → on ≤ℤ day → rate_on entries pair.0 pair.1 on ≡ None
IsPriceAt entries day pair (Some rate) =
    (on : ℤ) × (on ≤ℤ day) × (rate_on entries pair.0 pair.1 on ≡ Some rate)
    × ((later : ℤ) → on <ℤ later → later ≤ℤ day → rate_on entries pair.0 pair.1 later ≡ None)

-- the price of a pair that rows list
abbrev pub price_in : List PairPrice → List ℕ × List ℕ → Option ℕ
price_in rows pair = lookup (is_at (pair_cmp pair)) (map entry_of rows)

-- The rows list the prices of a book at a day: each pair that has one once, by base and quote, and no other.
pub record ArePrices (entries : List Entry) (day : ℤ) (rows : List PairPrice) : Type 0 where
  pub in_order : IsStrictlySortedBy pair_cmp (map pair_of rows)
  pub each : (pair : List ℕ × List ℕ) → IsPriceAt entries day pair (price_in rows pair)

-- ---- the rows of the table

abbrev pub price_of : PriceRow → PairPrice
price_of row = record { base = row.base; quote = row.quote; rate = row.rate }

abbrev pub row_pair : PriceRow → List ℕ × List ℕ
row_pair row = (row.base, row.quote)

abbrev pub is_of_pair : PriceRow → PriceRow → Bool
is_of_pair row other = is_eq (pair_cmp (row_pair row) (row_pair other))

-- the rows with no other of their pair behind them
abbrev pub last_rows : List PriceRow → List PriceRow
last_rows [] = []
last_rows (row ∷ rows) = if list_any (is_of_pair row) rows then last_rows rows else row ∷ last_rows rows

abbrev pub is_by : ℤ → PriceRow → Bool
is_by day row = not (int_lt day row.day)

-- the prices that rows in the order of their keys give at a day
abbrev pub prices_by : ℤ → List PriceRow → List PairPrice
prices_by day rows = map price_of (last_rows (filter (is_by day) rows))

-- ---- the place of a walk

-- the same, for the day that is asked for
abbrev pub ArePricesAt : ℤ → List Entry → List PairPrice → Type 0
ArePricesAt day entries rows = ArePrices entries day rows

-- the rows up to the day that a place is to give, of those that are left, where they are the last of their pairs
abbrev pub waiting : PricesPlace → List PriceRow → List PriceRow
waiting place left = option_to_list place.last ++ filter (is_by place.day) left

-- past the last row the cursor isn't asked again
abbrev pub IsRead : Bool → List PriceRow → List PriceRow → List PriceRow → Place → Type 0
IsRead false read left rows cursor = IsBehind price_cells read rows cursor
IsRead true read left rows cursor = left ≡ []

-- A place has given these prices: those and the ones of the rows that wait are all prices at the day.
pub record HasGiven (place : PricesPlace) (tables : Tables) (day : ℤ) (given : List PairPrice) : Type 0 where
  pub on : place.day ≡ day
  -- the rows that were read, and those that are left
  pub read : List PriceRow
  pub left : List PriceRow
  pub all : read ++ left ≡ tables.price
  pub cursor : IsRead place.is_past_last read left tables.price place.rows
  -- the rows up to the day that wait no more
  pub done : List PriceRow
  pub split : done ++ waiting place left ≡ filter (is_by place.day) tables.price
  pub rows : given ++ map price_of (last_rows (waiting place left)) ≡ prices_by place.day tables.price

-- the rows of the table give these prices at the day, all of them
abbrev pub AreAllPriceRows : ℤ → Tables → List PairPrice → Type 0
AreAllPriceRows day tables given = given ≡ prices_by day tables.price

abbrev pub IsBehindPriceRows : PricesPlace → Tables → ℤ → List PairPrice → Type 0
IsBehindPriceRows place tables day given = HasGiven place tables day given

-- a price is told as it is, and each is good
abbrev pub shown_price : PairPrice → PairPrice
shown_price price = price

abbrev pub IsAnyPrice : PairPrice → Type 0
IsAnyPrice price = Unit {0}

abbrev pub IsBehindPrices : PricesPlace → Tables → ℤ → List Entry → List PairPrice → Type 0
IsBehindPrices place tables day entries given = HasGiven place tables day given

-- ---- a row more

-- the row that waits behind one more
abbrev pub last_after : ℤ → Option PriceRow → PriceRow → Option PriceRow
last_after day last row = if is_by day row then Some row else last

-- a row waits for the next of another pair
abbrev pub before_row : Option PriceRow → PriceRow → PriceStep
before_row None row = Passed
before_row (Some last) row = if is_of_pair last row then Passed else Gives (Some (price_of last))

abbrev pub progress_of : ℤ → Option PriceRow → PriceRow → PriceStep
progress_of day last row = if is_by day row then before_row last row else Passed

-- a step that gives a price, or none more
abbrev pub StepsOver : PricesPlace → PricesPlace → State → State → Result (Option PairPrice) Fault → Type 0
StepsOver = Steps shown_price IsAnyPrice ArePricesAt IsBehindPrices Damaged Device

-- what comes of reading one more row
abbrev pub Progresses : PricesPlace → PricesPlace → State → State → Result PriceStep Fault → Type 0
Progresses before after old new (Ok Passed) = Went IsBehindPrices before after old new
Progresses before after old new (Ok (Gives found)) = StepsOver before after old new (Ok found)
Progresses before after old new (Err fault) = StepsOver before after old new (Err fault) × (HasCleanDisk new → StaysOrGoesBack old new)

-- the same of rows that may be those of no book
abbrev pub GivesPrices : PricesPlace → PricesPlace → State → State → Result (Option PairPrice) Fault → Type 0
GivesPrices = StepsOverRows shown_price AreAllPriceRows IsBehindPriceRows

abbrev pub ProgressesOverRows : PricesPlace → PricesPlace → State → State → Result PriceStep Fault → Type 0
ProgressesOverRows before after old new (Ok Passed) = KeepsRows IsBehindPriceRows before after old new
ProgressesOverRows before after old new (Ok (Gives found)) = GivesPrices before after old new (Ok found)
ProgressesOverRows before after old new (Err fault) = Unit {0}
