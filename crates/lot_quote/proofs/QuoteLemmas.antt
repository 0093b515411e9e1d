-- The rows of the table `price` are the prices of the book, one after another.
use Rattle.std.proofs.Common.{◌≡◌, List, [], ◌∷◌, ◌++◌, None, Some, Ok, Err, Option, Result}
use Rattle.sqlite.specs.State.{State}
use Rattle.lot_book.specs.Facts.{Entry}
use Rattle.lot_page.specs.Cursor.{Steps as CursorSteps}
use Rattle.lot_page.proofs.BehindLemmas.{all_rows, behind_rows}
use Rattle.lot_rows.specs.Price.{IsPriceRow, price_cells}
use Rattle.lot_rows.specs.Tables.{Tables}
use Rattle.lot_rows.specs.declared.price.PriceRow.{PriceRow}
use Rattle.lot_rows.proofs.PriceLemmas.{same_row}
use Rattle.lot_table.specs.declared.fault.Fault.{Fault}
use Rattle.lot_table.specs.declared.fault.Fault.TheVariants.{Damaged, Device}
use Rattle.lot_walk.specs.Step.{Steps, StepsOverRows}
use Rattle.lot_quote.specs.Quotes.{AreQuoteRows, AreQuotes, IsAnyQuote, IsBehindQuoteRows, IsBehindQuotes}
use Rattle.lot_quote.specs.declared.place.QuotesPlace.{QuotesPlace}

abbrev unread : Fault → Result (Option PriceRow) Fault
unread fault = Err fault

abbrev pub told : PriceRow → PriceRow
told row = row

module _ (before after : QuotesPlace) (old new : State) where
  abbrev pub ReadsRow : Result (Option PriceRow) Fault → Type 0
  ReadsRow = CursorSteps price_cells IsPriceRow (λ (b : Tables). b.price) before.cursor after.cursor old new

  abbrev pub Gives : Result (Option PriceRow) Fault → Type 0
  Gives = Steps told IsAnyQuote AreQuotes IsBehindQuotes Damaged Device before after old new

  pub quote_none : ReadsRow (Ok None) → Gives (Ok None)
  quote_none read = record {
    gives = λ clean tables entries has book stand asked given behind.
        (tables, stand, all_rows price_cells same_row given tables.price (read.gives clean tables has given behind));
    good = tt;
    same = read.same;
    damaged = λ clean is. cc;
    failed = λ clean is. cc;
    crash = read.crash;
  }

  pub quote_next : (row : PriceRow) → ReadsRow (Ok (Some row)) → Gives (Ok (Some row))
  quote_next row read = record {
    gives = λ clean tables entries has book stand asked given behind.
        let next = read.gives clean tables has given behind in
        let rows = behind_rows price_cells same_row (given ++ row ∷ []) tables.price after.cursor next in
        (next, (rows.0, (tables, stand, rows.1)));
    good = tt;
    same = read.same;
    damaged = λ clean is. cc;
    failed = λ clean is. cc;
    crash = read.crash;
  }

  pub quote_unread : (fault : Fault) → ReadsRow (Err fault) → Gives (Err fault)
  quote_unread fault read = record {
    gives = λ clean. tt;
    good = tt;
    same = λ clean. tt;
    damaged = λ clean is limit tables entries has book stand asked given behind.
        let of : unread fault ≡ Err Damaged = cc in read.damaged clean of limit tables has given behind stand.good.price;
    failed = λ clean is. let of : unread fault ≡ Err Device = cc in read.device clean of;
    crash = read.crash;
  }

  pub quote_step : (result : Result (Option PriceRow) Fault) → ReadsRow result → Gives result
  quote_step (Ok None) read = quote_none read
  quote_step (Ok (Some row)) read = quote_next row read
  quote_step (Err fault) read = quote_unread fault read

  -- ---- rows of a table that may be those of no book

  abbrev pub GivesRows : Result (Option PriceRow) Fault → Type 0
  GivesRows = StepsOverRows told AreQuoteRows IsBehindQuoteRows before after old new

  pub quote_rows : (result : Result (Option PriceRow) Fault) → ReadsRow result → GivesRows result
  quote_rows (Ok None) read = λ clean tables has asked given behind.
      all_rows price_cells same_row given tables.price (read.gives clean tables has given behind)
  quote_rows (Ok (Some row)) read = λ clean tables has asked given behind. read.gives clean tables has given behind
  quote_rows (Err fault) read = λ clean. tt
