-- The report of what a book holds, with the values of its lots at a day (docs/FORMATS.md, Holdings).
use Rattle.std.specs.Prelude.{◌≡◌, ℕ, ℤ, List, map, Option, None, Some, option_and_then, option_map, OnOk, Result, ⊤}
use Rattle.std.specs.BTreeMap.{BTreeMap, get}
use Rattle.lot_base.specs.Text.{text_cmp}
use Rattle.lot_cost.specs.declared.lot_key.LotKey.{LotKey}
use Rattle.lot_book.specs.Facts.{Entry}
use Rattle.lot_book.specs.declared.holding.Holding.{Holding}
use Rattle.lot_report.specs.Holdings.{IsEnd, fits, row_lines}
use Rattle.lot_report.specs.declared.holdings.ValuedHolding.{ValuedHolding}
use Rattle.lot_report.specs.declared.lot.Valuation.{Valuation}
use Rattle.lot_report.specs.declared.lot.Valuation.TheVariants.{At, Missing, Unasked}
use Rattle.lot_rows.specs.Tables.{Tables}
use Rattle.lot_book_report.specs.Show.{Shows, ShowsSome, WritesWhole}
use Rattle.lot_book_report.specs.declared.fault.ShowFault.{ShowFault}
use Rattle.lot_book_report.specs.declared.prices.DayPrices.{DayPrices}
use Rattle.lot_walk.specs.Holdings.{AreAllHoldingRows, IsHoldings}
use Rattle.lot_walk.specs.Prices.{ArePrices, price_in, prices_by}
use Rattle.lot_walk.specs.declared.price.PairPrice.{PairPrice}

-- ---- values

-- the valuation of a lot at the price that there is, or isn't
abbrev pub at_price : Option ℕ → Valuation
at_price None = Missing
at_price (Some rate) = At rate

-- A lot is valued at the price of its commodity in the currency of its cost. Plain units have no value.
abbrev pub valuation_at : (List ℕ → List ℕ → Option ℕ) → List ℕ → Option LotKey → Valuation
valuation_at price commodity None = Unasked
valuation_at price commodity (Some lot) = at_price (price commodity lot.currency)

-- the price of a commodity in a currency that rows of prices list
abbrev pub listed : List PairPrice → List ℕ → List ℕ → Option ℕ
listed prices base quote = price_in prices (base, quote)

-- without prices no value is asked
abbrev pub valuation_by : Option (List PairPrice) → Holding → Valuation
valuation_by None holding = Unasked
valuation_by (Some prices) holding = valuation_at (listed prices) holding.commodity holding.lot

abbrev pub valued_by : Option (List PairPrice) → Holding → ValuedHolding
valued_by prices holding = record { holding = holding; valuation = valuation_by prices holding }

-- ---- the report

-- the prices of the book at the day, where one is asked for
abbrev pub ArePricesAsked : List Entry → Option ℤ → Option (List PairPrice) → Type 0
ArePricesAsked entries None None = ⊤
ArePricesAsked entries None (Some prices) = ⊥
ArePricesAsked entries (Some day) None = ⊥
ArePricesAsked entries (Some day) (Some prices) = ArePrices entries day prices

-- the report of all that the book holds, each lot at its price at the day, is written, or as much of it as its fault leaves
abbrev pub ShowsHoldings : List Entry → Option ℤ → Option (List ℕ) → Option (List ℕ) → Result (Unit {0}) ShowFault → Type 0
ShowsHoldings entries day start now result =
    (prices : Option (List PairPrice)) × ArePricesAsked entries day prices
    × (holdings : List Holding) × IsHoldings entries holdings
    × Shows row_lines fits IsEnd (map (valued_by prices) holdings) start now result

-- whatever the tables are, the report of some holdings is
abbrev pub ShowsSomeHoldings : Option (List ℕ) → Option (List ℕ) → Result (Unit {0}) ShowFault → Type 0
ShowsSomeHoldings start now result = ShowsSome row_lines fits IsEnd start now result

-- ---- the rows of the tables, whatever those stand for

-- the prices that the rows of the table give at the day, where one is asked for
abbrev pub row_prices : Tables → Option ℤ → Option (List PairPrice)
row_prices tables asked = option_map (λ (day : ℤ). prices_by day tables.price) asked

-- Where no fault ends it, the report is that of all rows of plain units and of lots. Each lot is at the price that the rows of
-- prices give, and the totals are those of just these rows.
abbrev pub ShowsAllHoldings : Tables → Option ℤ → Option (List ℕ) → Option (List ℕ) → Result (Unit {0}) ShowFault → Type 0
ShowsAllHoldings tables day start now result =
    OnOk result ((holdings : List Holding) × AreAllHoldingRows tt tables holdings
    × WritesWhole row_lines fits IsEnd (map (valued_by (row_prices tables day)) holdings) start now)

-- ---- the prices that are kept

-- the rate that is kept for a base and a quote
abbrev pub rate_in : BTreeMap (List ℕ) (BTreeMap (List ℕ) ℕ) → List ℕ → List ℕ → Option ℕ
rate_in rates base quote = option_and_then (λ quotes. get text_cmp quotes quote) (get text_cmp rates base)

abbrev pub kept : DayPrices → List ℕ → List ℕ → Option ℕ
kept prices = rate_in prices.rates

abbrev pub valuation_with : Option DayPrices → Holding → Valuation
valuation_with None holding = Unasked
valuation_with (Some prices) holding = valuation_at (kept prices) holding.commodity holding.lot

abbrev pub valued_with : Option DayPrices → Holding → ValuedHolding
valued_with prices holding = record { holding = holding; valuation = valuation_with prices holding }

-- the prices of the book at the day are kept, and no other
abbrev pub KeepsPrices : List Entry → ℤ → DayPrices → Type 0
KeepsPrices entries day prices =
    (rows : List PairPrice) × ArePrices entries day rows × ((base quote : List ℕ) → kept prices base quote ≡ listed rows base quote)

-- the same report, with these prices
abbrev pub ShowsWith : List Entry → Option DayPrices → Option (List ℕ) → Option (List ℕ) → Result (Unit {0}) ShowFault → Type 0
ShowsWith entries prices start now result =
    (holdings : List Holding) × IsHoldings entries holdings × Shows row_lines fits IsEnd (map (valued_with prices) holdings) start now result

-- ---- the same of the rows of the tables

-- the prices that the rows of the table give at the day are kept, and no other
abbrev pub KeepsRowPrices : Tables → ℤ → DayPrices → Type 0
KeepsRowPrices tables day prices = (base quote : List ℕ) → kept prices base quote ≡ listed (prices_by day tables.price) base quote

abbrev pub ShowsAllWith : Tables → Option DayPrices → Option (List ℕ) → Option (List ℕ) → Result (Unit {0}) ShowFault → Type 0
ShowsAllWith tables prices start now result =
    OnOk result ((holdings : List Holding) × AreAllHoldingRows tt tables holdings
    × WritesWhole row_lines fits IsEnd (map (valued_with prices) holdings) start now)
