-- A sum of a page that leaves its range: where there is one, the page isn't written (docs/FORMATS.md, Page).
use Rattle.std.specs.Prelude.{List, map, Some}
use Rattle.lot_book.specs.Facts.{Entry}
use Rattle.lot_book.specs.declared.holding.Holding.{Holding}
use Rattle.lot_book_report.specs.Gains.{sale_in}
use Rattle.lot_book_report.specs.Holdings.{valued_by}
use Rattle.lot_legs.specs.Legs.{dated_legs}
use Rattle.lot_months.specs.Series.{SeriesLeaveRange}
use Rattle.lot_months.specs.declared.range.MonthRange.{MonthRange}
use Rattle.lot_position.specs.Held.{AreInRange, ListsHeld}
use Rattle.lot_quote.specs.Quotes.{AreQuotes}
use Rattle.lot_rows.specs.declared.price.PriceRow.{PriceRow}
use Rattle.lot_stored.specs.Rows.{entry_rows}
use Rattle.lot_sums.specs.Gather.{HasUnfit}
use Rattle.lot_walk.specs.Gains.{AreSalesWithin}
use Rattle.lot_walk.specs.Prices.{ArePrices}
use Rattle.lot_walk.specs.declared.gains.NumberedSale.{NumberedSale}
use Rattle.lot_walk.specs.declared.price.PairPrice.{PairPrice}
use Rattle.lot_page_report.specs.Held.{TotalsLeaveRange}
use Rattle.lot_page_report.specs.Parts.{IsRangeFor, PageOf, covered, days_of, end_of, price_day}
use Rattle.lot_page_report.specs.Read.{MoveTooMuch, all_fit}

pub data PageLeavesRange (page : PageOf) (entries : List Entry) : Type 0 where
  -- what the sales of the range gained by year, by commodity or in all, at one of them
  GainsLeave : (sales : List NumberedSale) → AreSalesWithin (days_of page) entries sales → HasUnfit (all_fit tt) (map sale_in sales)
      → PageLeavesRange page entries
  -- what a position holds at the end of the last day
  PositionLeaves : ¬ AreInRange (end_of page) (dated_legs entries) → PageLeavesRange page entries
  -- what the lots in a currency come to then
  TotalsLeave : (holdings : List Holding) → ListsHeld (end_of page) (dated_legs entries) holdings
      → (prices : List PairPrice) → ArePrices entries (price_day page) prices → TotalsLeaveRange (map (valued_by (Some prices)) holdings)
      → PageLeavesRange page entries
  -- what went into lots in one of the months that the page covers
  FlowsLeave : (range : MonthRange) → IsRangeFor (covered page (entry_rows 1 entries)) (Some range) → MoveTooMuch (Some range) (dated_legs entries)
      → PageLeavesRange page entries
  -- what lots hold at the end of one, or come to
  MonthsLeave : (range : MonthRange) → IsRangeFor (covered page (entry_rows 1 entries)) (Some range)
      → (quotes : List PriceRow) → AreQuotes tt entries quotes → SeriesLeaveRange range (dated_legs entries) quotes
      → PageLeavesRange page entries
