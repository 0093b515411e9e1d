-- What is on a page of a book: the rows of its reports (docs/FORMATS.md, Page).
use Rattle.std.specs.Prelude.{◌≡◌, ℕ, ℤ, pos, int_lt, if◌then◌else◌, List, [], ◌∷◌, filter, map, Option, None, Some}
use Rattle.std.specs.List.{AllByRecursion}
use Rattle.std.specs.List.Sorted.{IsStrictlySortedBy}
use Rattle.std.specs.Map.{keys_of, lookup}
use Rattle.std.specs.Option.{unwrap_or}
use Rattle.std.specs.Ordering.{is_eq}
use Rattle.lot_base.specs.Text.{text_cmp}
use Rattle.lot_book.specs.Facts.{Entry}
use Rattle.lot_book.specs.declared.holding.Holding.{Holding}
use Rattle.lot_book_report.specs.Dump.{digest_of}
use Rattle.lot_book_report.specs.Gains.{sale_in}
use Rattle.lot_book_report.specs.Holdings.{valued_by}
use Rattle.lot_book_report.specs.declared.digest.BookDigest.{BookDigest}
use Rattle.lot_cells.specs.Holdings.{totals_with}
use Rattle.lot_cells.specs.declared.holdings.LotTotals.{LotTotals}
use Rattle.lot_cost.specs.declared.lot_key.LotKey.{LotKey}
use Rattle.lot_legs.specs.Days.{day_in}
use Rattle.lot_legs.specs.Legs.{AreAllLegRows, dated_legs}
use Rattle.lot_legs.specs.declared.leg.DatedLeg.{DatedLeg}
use Rattle.lot_months.specs.Prices.{AreInDayOrder}
use Rattle.lot_months.specs.Range.{IsRangeOf}
use Rattle.lot_months.specs.Series.{AreSeries}
use Rattle.lot_months.specs.declared.range.MonthRange.{MonthRange}
use Rattle.lot_plot.specs.declared.lines.MonthPoint.{MonthPoint}
use Rattle.lot_position.specs.Held.{ListsHeld}
use Rattle.lot_quote.specs.Quotes.{AreQuotes}
use Rattle.lot_report.specs.declared.holdings.ValuedHolding.{ValuedHolding}
use Rattle.lot_report.specs.declared.lot.Valuation.{Valuation}
use Rattle.lot_rows.specs.Tables.{Tables}
use Rattle.lot_rows.specs.declared.entry.EntryRow.{EntryRow}
use Rattle.lot_rows.specs.declared.price.PriceRow.{PriceRow}
use Rattle.lot_store.specs.Extent.{IsExtent, extent_of}
use Rattle.lot_store.specs.declared.extent.Extent.{Extent}
use Rattle.lot_stored.specs.Rows.{entry_rows}
use Rattle.lot_tally.specs.Lots.{RowKey, all_lots}
use Rattle.lot_tally.specs.Rows.{AreRows}
use Rattle.lot_tally.specs.declared.key.GainKey.{GainKey}
use Rattle.lot_tally.specs.declared.key.GainKey.TheVariants as key
use Rattle.lot_tally.specs.declared.key.TableForm.TheVariants.{Csv}
use Rattle.lot_tally.specs.declared.sums.RowSums.{RowSums}
use Rattle.lot_walk.specs.Gains.{AreAllSaleRows, AreSalesWithin, HasLegs, Range, is_within}
use Rattle.lot_walk.specs.Prices.{ArePrices, prices_by}
use Rattle.lot_walk.specs.declared.gains.NumberedSale.{NumberedSale}
use Rattle.lot_walk.specs.declared.price.PairPrice.{PairPrice}
use Rattle.lot_page_report.specs.declared.scope.Heading.{Heading}
use Rattle.lot_page_report.specs.declared.scope.Heading.TheVariants.{Digest, Entries}
use Rattle.lot_page_report.specs.declared.scope.PageScope.{PageScope}

-- ---- what a page is of

pub record PageOf : Type 0 where
  pub name : List ℕ
  pub first : Option ℤ
  pub last : Option ℤ
  pub day : Option ℤ
  pub heading : Heading

abbrev pub page_in : PageScope → PageOf
page_in scope = record {
  name = scope.name.now;
  first = scope.first;
  last = scope.last;
  day = scope.day;
  heading = scope.heading;
}

-- the number of the last day of the calendar, and the day at whose end holdings are
abbrev pub last_day : ℤ
last_day = pos 2932896

abbrev pub end_of : PageOf → ℤ
end_of page = unwrap_or page.last last_day

abbrev pub prices_or : Option ℤ → Option ℤ → Option ℤ
prices_or None last = last
prices_or (Some day) last = Some day

-- the day of the prices of what is held, and the one that was asked for
abbrev pub price_day : PageOf → ℤ
price_day page = unwrap_or page.day (end_of page)

abbrev pub asked_prices : PageOf → Option ℤ
asked_prices page = prices_or page.day page.last

-- ---- the days

-- the range of the sales and entries
abbrev pub days_of : PageOf → Range
days_of page = (page.first, page.last)

-- the day of an entry, with which its text begins
abbrev pub day_of_row : EntryRow → ℤ
day_of_row row = unwrap_or (day_in row.body) (pos 0)

abbrev pub rows_within : Range → List EntryRow → List EntryRow
rows_within range rows = filter (λ (row : EntryRow). is_within range (day_of_row row)) rows

-- the lesser and the greater of two days, and the least and the greatest day of entries
abbrev pub sooner : ℤ → ℤ → ℤ
sooner day other = if int_lt other day then other else day

abbrev pub later : ℤ → ℤ → ℤ
later day other = if int_lt day other then other else day

abbrev pub earliest : ℤ → List EntryRow → ℤ
earliest day [] = day
earliest day (row ∷ rows) = earliest (sooner day (day_of_row row)) rows

abbrev pub latest : ℤ → List EntryRow → ℤ
latest day [] = day
latest day (row ∷ rows) = latest (later day (day_of_row row)) rows

-- the first day and the last of entries, if there are any
abbrev pub all_days : List EntryRow → Option (ℤ × ℤ)
all_days [] = None
all_days (row ∷ rows) = Some (earliest (day_of_row row) rows, latest (day_of_row row) rows)

-- the days that a page covers: those asked for, else that of the first or the last entry; without an entry there is none
abbrev pub covered_by : Range → Option (ℤ × ℤ) → Option (ℤ × ℤ)
covered_by range None = None
covered_by range (Some days) = Some (unwrap_or range.0 days.0, unwrap_or range.1 days.1)

abbrev pub covered : PageOf → List EntryRow → Option (ℤ × ℤ)
covered page rows = covered_by (days_of page) (all_days rows)

-- ---- what is on it

pub record Parts : Type 0 where
  pub entries : List EntryRow
  pub digest : Option BookDigest
  -- what the sales gained, by year, by commodity, and in all, each in every currency
  pub years : List (RowKey × RowSums)
  pub commodities : List (RowKey × RowSums)
  pub currencies : List (RowKey × RowSums)
  pub held : List ValuedHolding
  pub totals : List (List ℕ × LotTotals)
  pub range : Option MonthRange
  pub months : List (List ℕ × List MonthPoint)
  -- those that are listed
  pub sales : List NumberedSale
  pub listed : List EntryRow

-- the digest, where it is asked for
abbrev pub digest_for : Heading → BookDigest → Option BookDigest
digest_for Entries digest = None
digest_for Digest digest = Some digest

-- the same of tables, whatever those stand for: that of their rows of entries, and of how far they say that the book goes
abbrev pub IsDigestFor : Heading → Tables → Option BookDigest → Type 0
IsDigestFor Entries tables digest = digest ≡ None
IsDigestFor Digest tables digest =
    (extent : Extent) × IsExtent extent tables × (digest ≡ Some (digest_of extent tables.entry))

-- what the sales gained by these keys
abbrev pub AreGains : List GainKey → List NumberedSale → List (RowKey × RowSums) → Type 0
AreGains by sales rows = AreRows (all_lots by Csv (map sale_in sales)) rows

-- what the lots in a currency come to, with one more holding; where none is a lot in it, there is nothing
abbrev pub no_lots : LotTotals
no_lots = record { cost = pos 0; valued = None }

abbrev pub with_lot : List ℕ → Option LotTotals → Option LotKey → ℤ → Valuation → Option LotTotals
with_lot currency total None units valuation = total
with_lot currency total (Some lot) units valuation =
    if is_eq (text_cmp lot.currency currency) then Some (totals_with (unwrap_or total no_lots) lot units valuation) else total

abbrev pub with_row : List ℕ → Option LotTotals → ValuedHolding → Option LotTotals
with_row currency total row = with_lot currency total row.holding.lot row.holding.units row.valuation

abbrev pub with_rows : List ℕ → Option LotTotals → List ValuedHolding → Option LotTotals
with_rows currency total [] = total
with_rows currency total (row ∷ rows) = with_rows currency (with_row currency total row) rows

-- these are the totals of holdings: one for each currency of a lot, in the order of their bytes
pub record AreTotals (held : List ValuedHolding) (totals : List (List ℕ × LotTotals)) : Type 0 where
  pub in_order : IsStrictlySortedBy text_cmp (keys_of totals)
  pub each : (currency : List ℕ) → lookup (λ other. is_eq (text_cmp currency other)) totals ≡ with_rows currency None held

-- the months of the days that are covered, and what lots come to at the end of each
abbrev pub IsRangeFor : Option (ℤ × ℤ) → Option MonthRange → Type 0
IsRangeFor None range = range ≡ None
IsRangeFor (Some days) range = IsRangeOf days.0 days.1 range

abbrev pub AreMonths : Option MonthRange → List DatedLeg → List PriceRow → List (List ℕ × List MonthPoint) → Type 0
AreMonths None legs quotes months = months ≡ []
AreMonths (Some range) legs quotes months = AreSeries range legs quotes months

-- these are the parts of the page of a book
pub record ArePartsOf (page : PageOf) (place : ℕ) (entries : List Entry) (parts : Parts) : Type 0 where
  pub rows : parts.entries ≡ entry_rows 1 entries
  pub digest : parts.digest ≡ digest_for page.heading (digest_of (extent_of place entries) (entry_rows 1 entries))
  -- the sales that are added up, and those that are listed, are those of the range
  pub summed : List NumberedSale
  pub are_summed : AreSalesWithin (days_of page) entries summed
  pub years : AreGains (key.Year ∷ []) summed parts.years
  pub commodities : AreGains (key.Commodity ∷ []) summed parts.commodities
  pub currencies : AreGains [] summed parts.currencies
  pub sales : AreSalesWithin (days_of page) entries parts.sales
  -- what is held, at its prices
  pub holdings : List Holding
  pub lists : ListsHeld (end_of page) (dated_legs entries) holdings
  pub prices : List PairPrice
  pub are_prices : ArePrices entries (price_day page) prices
  pub held : parts.held ≡ map (valued_by (Some prices)) holdings
  pub totals : AreTotals parts.held parts.totals
  pub range : IsRangeFor (covered page parts.entries) parts.range
  pub quotes : List PriceRow
  pub are_quotes : AreQuotes tt entries quotes
  pub months : AreMonths parts.range (dated_legs entries) quotes parts.months
  pub listed : parts.listed ≡ entry_rows 1 entries

-- these are the rows of tables, whatever those stand for
pub record AreRowsOf (page : PageOf) (tables : Tables) (parts : Parts) : Type 0 where
  pub entries : parts.entries ≡ tables.entry
  pub digest : IsDigestFor page.heading tables parts.digest
  pub summed : List NumberedSale
  pub are_summed : AreAllSaleRows (days_of page) tables summed
  pub years : AreGains (key.Year ∷ []) summed parts.years
  pub commodities : AreGains (key.Commodity ∷ []) summed parts.commodities
  pub currencies : AreGains [] summed parts.currencies
  pub sales : AreAllSaleRows (days_of page) tables parts.sales
  -- what is held, at its prices, by the rows of legs
  pub leg_rows : List DatedLeg
  pub are_legs : AreAllLegRows tt tables leg_rows
  pub holdings : List Holding
  pub lists : ListsHeld (end_of page) leg_rows holdings
  pub held : parts.held ≡ map (valued_by (Some (prices_by (price_day page) tables.price))) holdings
  pub totals : AreTotals parts.held parts.totals
  pub range : IsRangeFor (covered page parts.entries) parts.range
  pub months : AreInDayOrder tables.price → AreMonths parts.range leg_rows tables.price parts.months
  pub legs : AllByRecursion HasLegs parts.sales
  pub listed : parts.listed ≡ tables.entry
