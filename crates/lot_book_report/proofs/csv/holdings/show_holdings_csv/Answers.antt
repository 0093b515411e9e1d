-- The prices are read first, and then the holdings.
use Rattle.std.proofs.Common.{Err, ap, refl, subst, sym}
use Rattle.std.proofs.lemmas.Result.{err_from_is_err_and}
use Rattle.sqlite.specs.Held.{state}
use Rattle.lot_csv.specs.Holdings.{holdings_header}
use Rattle.lot_csv.specs.declared.holdings.Columns.TheVariants.{Values}
use Rattle.lot_book_report.specs.Csv.{ShowsAllHoldingsCsv, ShowsHoldingsCsv, ShowsSomeHoldingsCsv, record_of_holding}
use Rattle.lot_book_report.specs.Show.{HoldsOfBook, HoldsOfTables}
use Rattle.lot_book_report.proofs.CauseLemmas.{of_book}
use Rattle.lot_book_report.proofs.CsvLemmas.{csv_none_shown, csv_not_begun, csv_rows_with_prices, csv_rows_without_prices, csv_with_prices, csv_without_prices}
use Rattle.lot_book_report.proofs.HoldingLemmas.{same_fault}
use Rattle.lot_book_report.proofs.ReadLemmas.{reads_then, stands_still, was_read}
use Rattle.lot_rows.proofs.StateLemmas.{early}
use Rattle.lot_walk.proofs.PlaceLemmas.{has_still}
use Rattle.lot_book_report.proofs.csv.holdings.show_holdings_csv.Goals as goal

pub returns-in_err-prices-in-Some-clause-shows : goal.returns-in_err-prices-in-Some-clause-shows
returns-in_err-prices-in-Some-clause-shows g c =
    let fault = err_from_is_err_and c.from_residual.result c.from_residual.ensures.1 in
    let read = c.in_err-prices-in-Some.ensures in
    rw (fault.1, fault.2) (subst (λ day. HoldsOfBook g.S.Store c.args.book.now c.read.new.book (λ entries. ShowsHoldingsCsv entries day (g.W.CountedWrite.contents c.args.writer.now) (g.W.CountedWrite.contents c.args.writer.now) (Err c.in_err-prices-in-Some.field-0.0))) (sym c.in-Some.is) (record {
      holds = λ clean entries stands.
          csv_not_begun (state g.S.Store c.args.book.now.conn) entries c.in-Some.day _ c.in_err-prices-in-Some.field-0.0 read.fault (λ is. read.reads.going (ap Err is)) stands;
    }))

pub returns-in_err-prices-in-Some-clause-reads : goal.returns-in_err-prices-in-Some-clause-reads
returns-in_err-prices-in-Some-clause-reads g c =
    let fault = err_from_is_err_and c.from_residual.result c.from_residual.ensures.1 in
    rw (fault.1, fault.2) (same_fault g.S.Store c.args.book.now c.read.new.book c.in_err-prices-in-Some.field-0.0 c.in_err-prices-in-Some.ensures.reads)

pub returns-in_ok-prices-in-Some-clause-shows : goal.returns-in_ok-prices-in-Some-clause-shows
returns-in_ok-prices-in-Some-clause-shows g c =
    let old = c.args.book.now in
    let mid = c.read.new.book in
    let read = was_read g.S.Store old mid _ c.in_ok-prices-in-Some.ensures.reads in
    let wrote = c.write_holdings_csv.ensures in
    subst (λ day. HoldsOfBook g.S.Store c.args.book.now c.write_holdings_csv.new.book (λ entries. ShowsHoldingsCsv entries day (g.W.CountedWrite.contents c.args.writer.now) (g.W.CountedWrite.contents c.write_holdings_csv.new.writer) c.write_holdings_csv.result)) (sym c.in-Some.is) (record {
      holds = λ clean entries stands.
          let was = early (state g.S.Store mid.conn) (state g.S.Store c.write_holdings_csv.new.book.conn) wrote.reads.crash clean in
          csv_with_prices entries _ _ _ c.in-Some.day c.in_ok-prices-in-Some.prices (c.in_ok-prices-in-Some.ensures.prices.holds was entries stands)
          (wrote.shows.holds clean entries (stands_still (state g.S.Store old.conn) (state g.S.Store mid.conn) entries (read.same was) stands));
    })

pub returns-in_ok-prices-in-Some-clause-reads : goal.returns-in_ok-prices-in-Some-clause-reads
returns-in_ok-prices-in-Some-clause-reads g c =
    reads_then g.S.Store c.args.book.now c.read.new.book c.write_holdings_csv.new.book
    (was_read g.S.Store c.args.book.now c.read.new.book _ c.in_ok-prices-in-Some.ensures.reads) c.write_holdings_csv.result c.write_holdings_csv.ensures.reads

pub returns-in-None-clause-shows : goal.returns-in-None-clause-shows
returns-in-None-clause-shows g c =
    subst (λ day. HoldsOfBook g.S.Store c.args.book.now c.write_holdings_csv-in-None.new.book (λ entries. ShowsHoldingsCsv entries day (g.W.CountedWrite.contents c.args.writer.now) (g.W.CountedWrite.contents c.write_holdings_csv-in-None.new.writer) c.write_holdings_csv-in-None.result)) (sym c.in-None.is) (record {
      holds = λ clean entries stands. csv_without_prices entries _ _ _ (c.write_holdings_csv-in-None.ensures.shows.holds clean entries stands);
    })

pub returns-in_err-prices-in-Some-clause-lines : goal.returns-in_err-prices-in-Some-clause-lines
returns-in_err-prices-in-Some-clause-lines g c =
    let fault = err_from_is_err_and c.from_residual.result c.from_residual.ensures.1 in
    let read = c.in_err-prices-in-Some.ensures in
    rw (fault.1, fault.2)
    (subst (λ day. ShowsSomeHoldingsCsv day (g.W.CountedWrite.contents c.args.writer.now) (g.W.CountedWrite.contents c.args.writer.now) (Err c.in_err-prices-in-Some.field-0.0)) (sym c.in-Some.is)
    (csv_none_shown (holdings_header Values) (record_of_holding Values) (g.W.CountedWrite.contents c.args.writer.now) c.in_err-prices-in-Some.field-0.0 read.fault (λ is. read.reads.going (ap Err is))))

pub returns-in_err-prices-in-Some-clause-rows : goal.returns-in_err-prices-in-Some-clause-rows
returns-in_err-prices-in-Some-clause-rows g c =
    let fault = err_from_is_err_and c.from_residual.result c.from_residual.ensures.1 in rw fault.1 (record { holds = λ clean tables has. tt })

pub returns-in_ok-prices-in-Some-clause-rows : goal.returns-in_ok-prices-in-Some-clause-rows
returns-in_ok-prices-in-Some-clause-rows g c =
    let old = c.args.book.now in
    let mid = c.read.new.book in
    let read = was_read g.S.Store old mid _ c.in_ok-prices-in-Some.ensures.reads in
    let wrote = c.write_holdings_csv.ensures in
    subst (λ day. HoldsOfTables g.S.Store c.args.book.now c.write_holdings_csv.new.book (λ tables. ShowsAllHoldingsCsv tables day (g.W.CountedWrite.contents c.args.writer.now) (g.W.CountedWrite.contents c.write_holdings_csv.new.writer) c.write_holdings_csv.result)) (sym c.in-Some.is) (record {
      holds = λ clean tables has.
          let was = early (state g.S.Store mid.conn) (state g.S.Store c.write_holdings_csv.new.book.conn) wrote.reads.crash clean in
          csv_rows_with_prices tables _ _ c.in-Some.day c.in_ok-prices-in-Some.prices c.write_holdings_csv.result (c.in_ok-prices-in-Some.ensures.rows.holds was tables has)
          (wrote.rows.holds clean tables (has_still (state g.S.Store old.conn) (state g.S.Store mid.conn) tables (read.same was) has));
    })

pub returns-in-None-clause-rows : goal.returns-in-None-clause-rows
returns-in-None-clause-rows g c =
    subst (λ day. HoldsOfTables g.S.Store c.args.book.now c.write_holdings_csv-in-None.new.book (λ tables. ShowsAllHoldingsCsv tables day (g.W.CountedWrite.contents c.args.writer.now) (g.W.CountedWrite.contents c.write_holdings_csv-in-None.new.writer) c.write_holdings_csv-in-None.result)) (sym c.in-None.is) (record {
      holds = λ clean tables has. csv_rows_without_prices tables _ _ c.write_holdings_csv-in-None.result (c.write_holdings_csv-in-None.ensures.rows.holds clean tables has);
    })

pub returns-in_err-prices-in-Some-clause-cause : goal.returns-in_err-prices-in-Some-clause-cause
returns-in_err-prices-in-Some-clause-cause g c =
    of_book c.from_residual.result c.in_err-prices-in-Some.field-0.0 (record { before = g.W.CountedWrite.calls c.args.writer.now; after = g.W.CountedWrite.calls c.args.writer.now }) c.from_residual.ensures.1 c.in_err-prices-in-Some.ensures.fault refl

pub returns-in_ok-prices-in-Some-clause-lines : goal.returns-in_ok-prices-in-Some-clause-lines
returns-in_ok-prices-in-Some-clause-lines g c =
    subst (λ day. ShowsSomeHoldingsCsv day (g.W.CountedWrite.contents c.args.writer.now) (g.W.CountedWrite.contents c.write_holdings_csv.new.writer) c.write_holdings_csv.result) (sym c.in-Some.is) c.write_holdings_csv.ensures.lines

pub returns-in-None-clause-lines : goal.returns-in-None-clause-lines
returns-in-None-clause-lines g c =
    subst (λ day. ShowsSomeHoldingsCsv day (g.W.CountedWrite.contents c.args.writer.now) (g.W.CountedWrite.contents c.write_holdings_csv-in-None.new.writer) c.write_holdings_csv-in-None.result) (sym c.in-None.is) c.write_holdings_csv-in-None.ensures.lines
