-- What a page is made of, by what was read of a book.
use Rattle.std.specs.Prelude.{false}
use Rattle.std.proofs.Common.{◌≡◌, ◌∙◌, ℤ, List, map, Option, None, Some, ap, inl, inr, refl, sym, subst}
use Rattle.lot_book.specs.Facts.{Entry}
use Rattle.lot_book_report.proofs.PriceLemmas.{all_valued}
use Rattle.lot_book_report.specs.Fault.{is_of_writer}
use Rattle.lot_book_report.specs.Holdings.{KeepsPrices, KeepsRowPrices}
use Rattle.lot_book_report.specs.Show.{IsOfBook}
use Rattle.lot_book_report.specs.declared.fault.ShowFault.{ShowFault}
use Rattle.lot_book_report.specs.declared.fault.ShowFault.TheVariants.{Row as AtRow, Walk as AtWalk}
use Rattle.lot_book_report.specs.declared.prices.DayPrices.{DayPrices}
use Rattle.lot_legs.specs.Legs.{AreAllLegRows, dated_legs}
use Rattle.lot_legs.specs.declared.leg.DatedLeg.{DatedLeg}
use Rattle.lot_months.specs.Lots.{HasFlows}
use Rattle.lot_months.specs.Prices.{AreInDayOrder, HasPrices}
use Rattle.lot_months.specs.Series.{AreSeries, SeriesLeaveRange, shown}
use Rattle.lot_months.specs.declared.flows.MonthFlows.{MonthFlows}
use Rattle.lot_months.specs.declared.prices.MonthPrices.{MonthPrices}
use Rattle.lot_months.specs.declared.range.MonthRange.{MonthRange}
use Rattle.lot_months.specs.declared.series.CurrencyMonths.{CurrencyMonths}
use Rattle.lot_quote.specs.Quotes.{AreQuoteRows, AreQuotes}
use Rattle.lot_rows.specs.Tables.{Tables}
use Rattle.lot_rows.specs.declared.entry.EntryRow.{EntryRow}
use Rattle.lot_rows.specs.declared.price.PriceRow.{PriceRow}
use Rattle.lot_stored.specs.Rows.{entry_rows}
use Rattle.lot_page_report.proofs.QuoteLemmas.{quotes_in_order}
use Rattle.lot_page_report.specs.Made.{AreLotRows, AreLots, AreLotsOf, AreMonthsOf, LotsLeaveRange, MonthsLeaveRange}
use Rattle.lot_page_report.specs.Counted.{HasCounted, days_in}
use Rattle.lot_page_report.specs.Held.{TotalsLeaveRange}
use Rattle.lot_page_report.specs.OutOfRange.{FlowsLeave, MonthsLeave, PageLeavesRange, PositionLeaves, TotalsLeave}
use Rattle.lot_page_report.specs.Parts.{AreMonths, IsRangeFor, PageOf, covered, covered_by, days_of, end_of, price_day}
use Rattle.lot_page_report.specs.Read.{FlowsOf, HasAllLegs, MoveTooMuch, PricesOf}
use Rattle.lot_page_report.specs.declared.counted.Counted.{Counted}
use Rattle.lot_page_report.specs.declared.counted.Days.{Days}
use Rattle.lot_page_report.specs.declared.parts.Lots.{Lots}
use Rattle.lot_page_report.specs.declared.read.LegTally.{LegTally}

-- a fault of the book isn't one of a writer
pub book_unwritten : (fault : ShowFault) → IsOfBook fault → is_of_writer fault ≡ false
book_unwritten (AtWalk fault) is = refl
book_unwritten (AtRow fault) is = absurd is

-- the months of legs and prices in the order of their days
months_are : (range : Option MonthRange) (legs : List DatedLeg) (quotes : List PriceRow) (flows : Option MonthFlows) (prices : Option MonthPrices)
    (months : List CurrencyMonths) → FlowsOf range legs flows → PricesOf range quotes prices → AreInDayOrder quotes → AreMonthsOf flows prices months
    → AreMonths range legs quotes (map shown months)
months_are None legs quotes None prices months has priced ordered are = ap (λ (all : List CurrencyMonths). map shown all) are
months_are None legs quotes (Some flows) prices months has priced ordered are = absurd has
months_are (Some range) legs quotes None prices months has priced ordered are = absurd has
months_are (Some range) legs quotes (Some flows) None months has priced ordered are = absurd priced
months_are (Some range) legs quotes (Some flows) (Some prices) months has priced ordered are =
    subst (λ (r : MonthRange). AreSeries r legs quotes (map shown months)) has.range_is
    (are legs quotes (subst (λ (r : MonthRange). HasFlows r legs flows) (sym has.range_is) has)
    (subst (λ (r : MonthRange). HasPrices r quotes prices) (sym has.range_is) priced) ordered)

-- what is held, and what lots come to, by the legs and the prices of a book
pub lots_are : (page : PageOf) (entries : List Entry) (range : Option MonthRange) (legs : LegTally) (quotes : Option MonthPrices)
    (prices : DayPrices) (lots : Lots) → IsRangeFor (covered page (entry_rows 1 entries)) range → KeepsPrices entries (price_day page) prices
    → HasAllLegs (end_of page, range) (dated_legs entries) legs → ((all : List PriceRow) × AreQuotes tt entries all × PricesOf range all quotes)
    → AreLotsOf range legs quotes prices lots → AreLots page entries lots
lots_are page entries range legs quotes prices lots is_range keeps has (all, are_all, priced) are = record {
  holdings = are.held.0;
  lists = are.held.2 (end_of page) (dated_legs entries) has.positions;
  prices = prices;
  keeps = keeps;
  held = are.held.1;
  range = subst (IsRangeFor (covered page (entry_rows 1 entries))) (sym are.range_is) is_range;
  quotes = all;
  are_quotes = are_all;
  months = subst (λ (r : Option MonthRange). AreMonths r (dated_legs entries) all (map shown lots.months.items)) (sym are.range_is)
      (months_are range (dated_legs entries) all legs.flows quotes lots.months.items has.flows priced (quotes_in_order entries all are_all)
      are.months);
}

-- the months of the days that the page covers
pub range_covered : (page : PageOf) (rows : List EntryRow) (counted : Counted) (days : Option Days) (range : Option MonthRange)
    → HasCounted (days_of page) rows counted → days_in days ≡ covered_by (counted.first, counted.last) (days_in counted.days)
    → IsRangeFor (days_in days) range → IsRangeFor (covered page rows) range
range_covered page rows counted days range had same is =
    subst (λ (d : Option (ℤ × ℤ)). IsRangeFor d range) (same ∙ (λ i. covered_by (had.first i, had.last i) (had.days i))) is

-- the same by the rows of tables
pub lot_rows_are : (page : PageOf) (tables : Tables) (range : Option MonthRange) (legs : LegTally) (quotes : Option MonthPrices)
    (prices : DayPrices) (lots : Lots) → IsRangeFor (covered page tables.entry) range → KeepsRowPrices tables (price_day page) prices
    → ((all : List DatedLeg) × AreAllLegRows tt tables all × HasAllLegs (end_of page, range) all legs)
    → ((all : List PriceRow) × AreQuoteRows tt tables all × PricesOf range all quotes) → AreLotsOf range legs quotes prices lots
    → AreLotRows page tables lots
lot_rows_are page tables range legs quotes prices lots is_range keeps (all, are_all, has) (rows, are_rows, priced) are = record {
  legs = all;
  are_legs = are_all;
  holdings = are.held.0;
  lists = are.held.2 (end_of page) all has.positions;
  prices = prices;
  keeps = keeps;
  held = are.held.1;
  range = subst (IsRangeFor (covered page tables.entry)) (sym are.range_is) is_range;
  months = λ order.
      subst (λ (r : Option MonthRange). AreMonths r all tables.price (map shown lots.months.items)) (sym are.range_is)
      (months_are range all tables.price legs.flows quotes lots.months.items has.flows
      (subst (λ (q : List PriceRow). PricesOf range q quotes) are_rows priced) order are.months);
}

-- ---- sums that leave their range

-- what went into lots of some pair in a month does
pub legs_leave : (page : PageOf) (entries : List Entry) (range : Option MonthRange) → IsRangeFor (covered page (entry_rows 1 entries)) range
    → MoveTooMuch range (dated_legs entries) → PageLeavesRange page entries
legs_leave page entries None is_range out = absurd out
legs_leave page entries (Some range) is_range out = FlowsLeave range is_range out

months_leave : (page : PageOf) (entries : List Entry) (range : Option MonthRange) (quotes : List PriceRow) (flows : Option MonthFlows)
    (prices : Option MonthPrices) → IsRangeFor (covered page (entry_rows 1 entries)) range → AreQuotes tt entries quotes
    → FlowsOf range (dated_legs entries) flows → PricesOf range quotes prices → MonthsLeaveRange flows prices → PageLeavesRange page entries
months_leave page entries range quotes None prices is_range are has priced out = absurd out
months_leave page entries range quotes (Some flows) None is_range are has priced out = absurd out
months_leave page entries None quotes (Some flows) (Some prices) is_range are has priced out = absurd has
months_leave page entries (Some range) quotes (Some flows) (Some prices) is_range are has priced out =
    MonthsLeave range is_range quotes are
    (subst (λ (r : MonthRange). SeriesLeaveRange r (dated_legs entries) quotes) has.range_is
    (out (dated_legs entries) quotes (subst (λ (r : MonthRange). HasFlows r (dated_legs entries) flows) (sym has.range_is) has)
    (subst (λ (r : MonthRange). HasPrices r quotes prices) (sym has.range_is) priced) (quotes_in_order entries quotes are)))

-- what lots come to does, or what a position holds
pub lots_leave : (page : PageOf) (entries : List Entry) (range : Option MonthRange) (legs : LegTally) (quotes : Option MonthPrices)
    (prices : DayPrices) → IsRangeFor (covered page (entry_rows 1 entries)) range → KeepsPrices entries (price_day page) prices
    → HasAllLegs (end_of page, range) (dated_legs entries) legs → ((all : List PriceRow) × AreQuotes tt entries all × PricesOf range all quotes)
    → LotsLeaveRange legs quotes prices → PageLeavesRange page entries
lots_leave page entries range legs quotes prices is_range keeps has priced (inl out) =
    PositionLeaves (out (end_of page) (dated_legs entries) has.positions)
lots_leave page entries range legs quotes prices is_range keeps has priced (inr (inl (holdings, lists, out))) =
    TotalsLeave holdings (lists (end_of page) (dated_legs entries) has.positions) keeps.0 keeps.1
    (subst TotalsLeaveRange (all_valued prices keeps.0 keeps.2 holdings) out)
lots_leave page entries range legs quotes prices is_range keeps has (all, are, priced) (inr (inr out)) =
    months_leave page entries range all legs.flows quotes is_range are has.flows priced out
