-- The walk over the prices of a book: the last accepted of each pair and day, by base, quote and day.
use Rattle.std.specs.Prelude.{◌≡◌, List}
use Rattle.lot_book.specs.Facts.{Entry}
use Rattle.lot_page.specs.Cursor.{IsBehind}
use Rattle.lot_rows.specs.Price.{price_cells}
use Rattle.lot_rows.specs.Tables.{Tables}
use Rattle.lot_rows.specs.declared.price.PriceRow.{PriceRow}
use Rattle.lot_stored.specs.StandFor.{StandFor}
use Rattle.lot_quote.specs.declared.place.QuotesPlace.{QuotesPlace}

abbrev pub IsAnyQuote : PriceRow → Type 0
IsAnyQuote row = Unit {0}

-- these are the rows of the table, all of them
abbrev pub AreQuoteRows : Unit {0} → Tables → List PriceRow → Type 0
AreQuoteRows asked tables rows = rows ≡ tables.price

-- these are the prices of a book, all of them: those of tables that stand for it
abbrev pub AreQuotes : Unit {0} → List Entry → List PriceRow → Type 0
AreQuotes asked entries rows = (tables : Tables) × StandFor tables entries × AreQuoteRows asked tables rows

abbrev pub IsBehindQuoteRows : QuotesPlace → Tables → Unit {0} → List PriceRow → Type 0
IsBehindQuoteRows place tables asked given = IsBehind price_cells given tables.price place.cursor

abbrev pub IsBehindQuotes : QuotesPlace → Tables → Unit {0} → List Entry → List PriceRow → Type 0
IsBehindQuotes place tables asked entries given = IsBehindQuoteRows place tables asked given
