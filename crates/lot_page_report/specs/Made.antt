-- What the parts of a page are made of.
use Rattle.std.specs.Prelude.{◌≡◌, ◌⊎◌, ℕ, ℤ, List, [], map, Option, None, Some}
use Rattle.lot_book.specs.Facts.{Entry}
use Rattle.lot_book.specs.declared.holding.Holding.{Holding}
use Rattle.lot_book_report.specs.Dump.{digest_of}
use Rattle.lot_book_report.specs.Gains.{sale_in}
use Rattle.lot_book_report.specs.Holdings.{KeepsPrices, KeepsRowPrices, valued_with}
use Rattle.lot_book_report.specs.declared.prices.DayPrices.{DayPrices}
use Rattle.lot_legs.specs.Legs.{AreAllLegRows, dated_legs}
use Rattle.lot_legs.specs.declared.leg.DatedLeg.{DatedLeg}
use Rattle.lot_months.specs.Lots.{HasFlows}
use Rattle.lot_months.specs.Prices.{AreInDayOrder, HasPrices}
use Rattle.lot_months.specs.Series.{AreSeries, SeriesLeaveRange, shown}
use Rattle.lot_months.specs.declared.flows.MonthFlows.{MonthFlows}
use Rattle.lot_months.specs.declared.prices.MonthPrices.{MonthPrices}
use Rattle.lot_months.specs.declared.range.MonthRange.{MonthRange}
use Rattle.lot_months.specs.declared.series.CurrencyMonths.{CurrencyMonths}
use Rattle.lot_position.specs.Held.{AreInRange, Keeps, ListsHeld}
use Rattle.lot_quote.specs.Quotes.{AreQuotes}
use Rattle.lot_rows.specs.Tables.{Tables}
use Rattle.lot_rows.specs.declared.entry.EntryRow.{EntryRow}
use Rattle.lot_rows.specs.declared.price.PriceRow.{PriceRow}
use Rattle.lot_store.specs.Extent.{extent_of}
use Rattle.lot_stored.specs.Rows.{entry_rows}
use Rattle.lot_walk.specs.Gains.{AreAllSaleRows, AreSalesWithin}
use Rattle.lot_walk.specs.declared.gains.NumberedSale.{NumberedSale}
use Rattle.lot_page_report.specs.Counted.{HasCounted}
use Rattle.lot_page_report.specs.Held.{IsHeld, TotalsLeaveRange}
use Rattle.lot_page_report.specs.Parts.{AreMonths, IsDigestFor, IsRangeFor, PageOf, covered, days_of, digest_for, end_of, price_day}
use Rattle.lot_page_report.specs.Read.{HasSales}
use Rattle.lot_page_report.specs.declared.parts.Lots.{Lots}
use Rattle.lot_page_report.specs.declared.parts.PageParts.{PageParts}
use Rattle.lot_page_report.specs.declared.read.LegTally.{LegTally}

-- ---- lots

-- what lots come to at the end of each month, by what went into them and the prices of each month
abbrev pub AreMonthsOf : Option MonthFlows → Option MonthPrices → List CurrencyMonths → Type 0
AreMonthsOf None prices months = months ≡ []
AreMonthsOf (Some flows) None months = months ≡ []
AreMonthsOf (Some flows) (Some prices) months =
    (legs : List DatedLeg) (quotes : List PriceRow) → HasFlows flows.range legs flows → HasPrices flows.range quotes prices
    → AreInDayOrder quotes → AreSeries flows.range legs quotes (map shown months)

-- what is held by positions, valued
abbrev pub IsHeldBy : LegTally → DayPrices → Lots → Type 0
IsHeldBy legs prices lots =
    (holdings : List Holding) × IsHeld (Some prices) holdings lots.held
    × ((day : ℤ) (all : List DatedLeg) → Keeps day all legs.positions → ListsHeld day all holdings)

-- where that leaves its range
abbrev pub MonthsLeaveRange : Option MonthFlows → Option MonthPrices → Type 0
MonthsLeaveRange None prices = ⊥
MonthsLeaveRange (Some flows) None = ⊥
MonthsLeaveRange (Some flows) (Some prices) =
    (legs : List DatedLeg) (quotes : List PriceRow) → HasFlows flows.range legs flows → HasPrices flows.range quotes prices
    → AreInDayOrder quotes → SeriesLeaveRange flows.range legs quotes

-- what a position holds leaves its range, or what the lots in a currency come to, valued, or what lots do at the end of a month
abbrev pub LotsLeaveRange : LegTally → Option MonthPrices → DayPrices → Type 0
LotsLeaveRange legs quotes prices =
    ((day : ℤ) (all : List DatedLeg) → Keeps day all legs.positions → ¬ AreInRange day all)
    ⊎ (((holdings : List Holding) × ((day : ℤ) (all : List DatedLeg) → Keeps day all legs.positions → ListsHeld day all holdings)
    × TotalsLeaveRange (map (valued_with (Some prices)) holdings))
    ⊎ MonthsLeaveRange legs.flows quotes)

pub record AreLotsOf (range : Option MonthRange) (legs : LegTally) (quotes : Option MonthPrices) (prices : DayPrices) (lots : Lots) : Type 0 where
  pub range_is : lots.range ≡ range
  pub held : IsHeldBy legs prices lots
  pub months : AreMonthsOf legs.flows quotes lots.months.items

-- the lots of a book, at the end of a day and of the months that days cover
pub record AreLots (page : PageOf) (entries : List Entry) (lots : Lots) : Type 0 where
  pub holdings : List Holding
  pub lists : ListsHeld (end_of page) (dated_legs entries) holdings
  pub prices : DayPrices
  pub keeps : KeepsPrices entries (price_day page) prices
  pub held : IsHeld (Some prices) holdings lots.held
  pub range : IsRangeFor (covered page (entry_rows 1 entries)) lots.range
  pub quotes : List PriceRow
  pub are_quotes : AreQuotes tt entries quotes
  pub months : AreMonths lots.range (dated_legs entries) quotes (map shown lots.months.items)

-- the same of the rows of tables
pub record AreLotRows (page : PageOf) (tables : Tables) (lots : Lots) : Type 0 where
  pub legs : List DatedLeg
  pub are_legs : AreAllLegRows tt tables legs
  pub holdings : List Holding
  pub lists : ListsHeld (end_of page) legs holdings
  pub prices : DayPrices
  pub keeps : KeepsRowPrices tables (price_day page) prices
  pub held : IsHeld (Some prices) holdings lots.held
  pub range : IsRangeFor (covered page tables.entry) lots.range
  pub months : AreInDayOrder tables.price → AreMonths lots.range legs tables.price (map shown lots.months.items)

-- ---- all of them

pub record IsPageOfBook (page : PageOf) (place : ℕ) (entries : List Entry) (made : PageParts) : Type 0 where
  pub counted : HasCounted (days_of page) (entry_rows 1 entries) made.counted
  pub digest : made.digest ≡ digest_for page.heading (digest_of (extent_of place entries) (entry_rows 1 entries))
  pub sold : List NumberedSale
  pub are_sold : AreSalesWithin (days_of page) entries sold
  pub sales : HasSales tt (map sale_in sold) made.sales
  pub lots : AreLots page entries made.lots

-- the same of the rows of tables, whatever those stand for
pub record IsPageOfTables (page : PageOf) (tables : Tables) (made : PageParts) : Type 0 where
  pub counted : HasCounted (days_of page) tables.entry made.counted
  pub digest : IsDigestFor page.heading tables made.digest
  pub sold : List NumberedSale
  pub are_sold : AreAllSaleRows (days_of page) tables sold
  pub sales : HasSales tt (map sale_in sold) made.sales
  pub lots : AreLotRows page tables made.lots

-- whatever was read
pub record IsSomePage (page : PageOf) (made : PageParts) : Type 0 where
  pub rows : List EntryRow
  pub counted : HasCounted (days_of page) rows made.counted
