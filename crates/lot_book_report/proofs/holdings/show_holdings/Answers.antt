-- The prices are read first, and then the holdings.
use Rattle.std.proofs.Common.{Err, ap, refl}
use Rattle.std.proofs.lemmas.Result.{err_from_is_err_and}
use Rattle.sqlite.specs.Held.{state}
use Rattle.lot_report.specs.Holdings.{IsEnd, fits, row_lines}
use Rattle.lot_book_report.proofs.CauseLemmas.{of_book}
use Rattle.lot_book_report.proofs.FeedLemmas.{none_shown}
use Rattle.lot_book_report.proofs.HoldingLemmas.{not_begun, rows_with_prices, rows_without_prices, same_fault, with_prices, without_prices}
use Rattle.lot_book_report.proofs.ReadLemmas.{reads_then, stands_still, was_read}
use Rattle.lot_rows.proofs.StateLemmas.{early}
use Rattle.lot_walk.proofs.PlaceLemmas.{has_still}
use Rattle.lot_book_report.proofs.holdings.show_holdings.Goals as goal

pub returns-in_err-prices-in-Some-clause-shows : goal.returns-in_err-prices-in-Some-clause-shows
returns-in_err-prices-in-Some-clause-shows g c =
    let fault = err_from_is_err_and c.from_residual.result c.from_residual.ensures.1 in
    let read = c.in_err-prices-in-Some.ensures in
    rw (fault.1, fault.2, c.in-Some.is) (record {
      holds = λ clean entries stands.
          not_begun (state g.S.Store c.args.book.now.conn) entries c.in-Some.day _ c.in_err-prices-in-Some.field-0.0 read.fault (λ is. read.reads.going (ap Err is)) stands;
    })

pub returns-in_err-prices-in-Some-clause-reads : goal.returns-in_err-prices-in-Some-clause-reads
returns-in_err-prices-in-Some-clause-reads g c =
    let fault = err_from_is_err_and c.from_residual.result c.from_residual.ensures.1 in
    rw (fault.1, fault.2) (same_fault g.S.Store c.args.book.now c.read.new.book c.in_err-prices-in-Some.field-0.0 c.in_err-prices-in-Some.ensures.reads)

pub returns-in_ok-prices-in-Some-clause-shows : goal.returns-in_ok-prices-in-Some-clause-shows
returns-in_ok-prices-in-Some-clause-shows g c =
    let old = c.args.book.now in
    let mid = c.read.new.book in
    let read = was_read g.S.Store old mid _ c.in_ok-prices-in-Some.ensures.reads in
    let wrote = c.write_holdings.ensures in
    rw c.in-Some.is (record {
      holds = λ clean entries stands.
          let was = early (state g.S.Store mid.conn) (state g.S.Store c.write_holdings.new.book.conn) wrote.reads.crash clean in
          with_prices entries _ _ _ c.in-Some.day c.in_ok-prices-in-Some.prices (c.in_ok-prices-in-Some.ensures.prices.holds was entries stands)
          (wrote.shows.holds clean entries (stands_still (state g.S.Store old.conn) (state g.S.Store mid.conn) entries (read.same was) stands));
    })

pub returns-in_ok-prices-in-Some-clause-reads : goal.returns-in_ok-prices-in-Some-clause-reads
returns-in_ok-prices-in-Some-clause-reads g c =
    reads_then g.S.Store c.args.book.now c.read.new.book c.write_holdings.new.book
    (was_read g.S.Store c.args.book.now c.read.new.book _ c.in_ok-prices-in-Some.ensures.reads) c.write_holdings.result c.write_holdings.ensures.reads

pub returns-in-None-clause-shows : goal.returns-in-None-clause-shows
returns-in-None-clause-shows g c =
    rw c.in-None.is (record {
      holds = λ clean entries stands. without_prices entries _ _ _ (c.write_holdings-in-None.ensures.shows.holds clean entries stands);
    })

pub returns-in_err-prices-in-Some-clause-lines : goal.returns-in_err-prices-in-Some-clause-lines
returns-in_err-prices-in-Some-clause-lines g c =
    let fault = err_from_is_err_and c.from_residual.result c.from_residual.ensures.1 in
    let read = c.in_err-prices-in-Some.ensures in
    rw (fault.1, fault.2)
    (none_shown row_lines fits IsEnd (g.W.CountedWrite.contents c.args.writer.now) c.in_err-prices-in-Some.field-0.0 read.fault (λ is. read.reads.going (ap Err is)))

pub returns-in_err-prices-in-Some-clause-rows : goal.returns-in_err-prices-in-Some-clause-rows
returns-in_err-prices-in-Some-clause-rows g c =
    let fault = err_from_is_err_and c.from_residual.result c.from_residual.ensures.1 in rw fault.1 (record { holds = λ clean tables has. tt })

pub returns-in_ok-prices-in-Some-clause-rows : goal.returns-in_ok-prices-in-Some-clause-rows
returns-in_ok-prices-in-Some-clause-rows g c =
    let old = c.args.book.now in
    let mid = c.read.new.book in
    let read = was_read g.S.Store old mid _ c.in_ok-prices-in-Some.ensures.reads in
    let wrote = c.write_holdings.ensures in
    rw c.in-Some.is (record {
      holds = λ clean tables has.
          let was = early (state g.S.Store mid.conn) (state g.S.Store c.write_holdings.new.book.conn) wrote.reads.crash clean in
          rows_with_prices tables _ _ c.in-Some.day c.in_ok-prices-in-Some.prices c.write_holdings.result (c.in_ok-prices-in-Some.ensures.rows.holds was tables has)
          (wrote.rows.holds clean tables (has_still (state g.S.Store old.conn) (state g.S.Store mid.conn) tables (read.same was) has));
    })

pub returns-in-None-clause-rows : goal.returns-in-None-clause-rows
returns-in-None-clause-rows g c =
    rw c.in-None.is (record {
      holds = λ clean tables has. rows_without_prices tables _ _ c.write_holdings-in-None.result (c.write_holdings-in-None.ensures.rows.holds clean tables has);
    })

pub returns-in_err-prices-in-Some-clause-cause : goal.returns-in_err-prices-in-Some-clause-cause
returns-in_err-prices-in-Some-clause-cause g c =
    of_book c.from_residual.result c.in_err-prices-in-Some.field-0.0 (record { before = g.W.CountedWrite.calls c.args.writer.now; after = g.W.CountedWrite.calls c.args.writer.now }) c.from_residual.ensures.1 c.in_err-prices-in-Some.ensures.fault refl
