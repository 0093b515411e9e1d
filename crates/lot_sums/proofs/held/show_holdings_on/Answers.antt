-- The prices are read first, then what was held, and its rows are written.
use Rattle.std.proofs.Common.{[], None, Err, Some, ap, map, refl}
use Rattle.std.proofs.lemmas.Result.{err_from_is_err_and}
use Rattle.sqlite.specs.Held.{state}
use Rattle.lot_book_report.proofs.CauseLemmas.{of_book}
use Rattle.lot_book_report.proofs.HoldingLemmas.{same_fault}
use Rattle.lot_book_report.proofs.ReadLemmas.{read_then, reads_then, stands_still, was_read}
use Rattle.lot_book_report.specs.Holdings.{kept, listed, valued_with}
use Rattle.lot_csv.specs.declared.holdings.Columns.TheVariants.{Values}
use Rattle.lot_legs.specs.Legs.{dated_legs}
use Rattle.lot_rows.proofs.StateLemmas.{early}
use Rattle.lot_sums.proofs.HeldLemmas.{all_found, found, none_called, none_shown, not_found, prices_stopped, reads_rows, shows_kept, shows_listed}
use Rattle.lot_walk.proofs.PlaceLemmas.{has_still}
use Rattle.lot_walk.specs.Prices.{prices_by}
use Rattle.lot_sums.proofs.held.show_holdings_on.Goals as goal

-- ---- the prices aren't read

pub returns-in_err-prices-clause-shows : goal.returns-in_err-prices-clause-shows
returns-in_err-prices-clause-shows g c =
    let fault = err_from_is_err_and c.from_residual.result c.from_residual.ensures.1 in
    let read = c.in_err-prices.ensures in
    rw (fault.1, fault.2) (record {
      holds = λ clean entries stands.
          prices_stopped c.args.form c.args.on c.args.day stands.tables entries stands.stand _ c.in_err-prices.field-0.0 read.fault (λ is. read.reads.going (ap Err is));
    })

pub returns-in_err-prices-clause-some : goal.returns-in_err-prices-clause-some
returns-in_err-prices-clause-some g c =
    let fault = err_from_is_err_and c.from_residual.result c.from_residual.ensures.1 in
    let read = c.in_err-prices.ensures in
    rw (fault.1, fault.2)
    (λ base quote. None, [], none_shown c.args.form c.args.on (λ base quote. None) [] _ c.in_err-prices.field-0.0 read.fault (λ is. read.reads.going (ap Err is)))

pub returns-in_err-prices-clause-rows : goal.returns-in_err-prices-clause-rows
returns-in_err-prices-clause-rows g c =
    let fault = err_from_is_err_and c.from_residual.result c.from_residual.ensures.1 in
    rw fault.1 (record { holds = λ clean tables has. tt })

pub returns-in_err-prices-clause-reads : goal.returns-in_err-prices-clause-reads
returns-in_err-prices-clause-reads g c =
    let fault = err_from_is_err_and c.from_residual.result c.from_residual.ensures.1 in
    rw (fault.1, fault.2) (same_fault g.S.Store c.args.book.now c.read.new.book c.in_err-prices.field-0.0 c.in_err-prices.ensures.reads)

pub returns-in_err-prices-clause-cause : goal.returns-in_err-prices-clause-cause
returns-in_err-prices-clause-cause g c =
    of_book c.from_residual.result c.in_err-prices.field-0.0 (record { before = g.W.CountedWrite.calls c.args.writer.now; after = g.W.CountedWrite.calls c.args.writer.now }) c.from_residual.ensures.1 c.in_err-prices.ensures.fault refl

-- ---- what was held isn't found

pub returns-in_err-rows-clause-shows : goal.returns-in_err-rows-clause-shows
returns-in_err-rows-clause-shows g c =
    let fault = err_from_is_err_and c.from_residual-in_err-rows.result c.from_residual-in_err-rows.ensures.1 in
    let old = c.args.book.now in
    let mid = c.read.new.book in
    let read = was_read g.S.Store old mid _ c.in_ok-prices.ensures.reads in
    let held = c.in_err-rows.ensures in
    rw (fault.1, fault.2) (record {
      holds = λ clean entries stands.
          let was = early (state g.S.Store mid.conn) (state g.S.Store c.held_on.new.book.conn) held.reads.crash clean in
          let (list, are, same) = c.in_ok-prices.ensures.prices.holds was entries stands in (
            list,
            are,
            not_found c.args.form c.args.on (listed list) (dated_legs entries) _ c.in_err-rows.field-0.0
                (held.finds.holds clean entries (stands_still (state g.S.Store old.conn) (state g.S.Store mid.conn) entries (read.same was) stands)),
          );
    })

pub returns-in_err-rows-clause-some : goal.returns-in_err-rows-clause-some
returns-in_err-rows-clause-some g c =
    let fault = err_from_is_err_and c.from_residual-in_err-rows.result c.from_residual-in_err-rows.ensures.1 in
    let (legs, finds) = c.in_err-rows.ensures.some in
    rw (fault.1, fault.2) (λ base quote. None, legs, not_found c.args.form c.args.on (λ base quote. None) legs _ c.in_err-rows.field-0.0 finds)

pub returns-in_err-rows-clause-rows : goal.returns-in_err-rows-clause-rows
returns-in_err-rows-clause-rows g c =
    let fault = err_from_is_err_and c.from_residual-in_err-rows.result c.from_residual-in_err-rows.ensures.1 in
    rw fault.1 (record { holds = λ clean tables has. tt })

pub returns-in_err-rows-clause-reads : goal.returns-in_err-rows-clause-reads
returns-in_err-rows-clause-reads g c =
    let fault = err_from_is_err_and c.from_residual-in_err-rows.result c.from_residual-in_err-rows.ensures.1 in
    rw (fault.1, fault.2)
    (reads_then g.S.Store c.args.book.now c.read.new.book c.held_on.new.book
    (was_read g.S.Store c.args.book.now c.read.new.book _ c.in_ok-prices.ensures.reads) (Err c.in_err-rows.field-0.0)
    (same_fault g.S.Store c.read.new.book c.held_on.new.book c.in_err-rows.field-0.0 c.in_err-rows.ensures.reads))

pub returns-in_err-rows-clause-cause : goal.returns-in_err-rows-clause-cause
returns-in_err-rows-clause-cause g c =
    let fault = err_from_is_err_and c.from_residual-in_err-rows.result c.from_residual-in_err-rows.ensures.1 in
    let (legs, finds) = c.in_err-rows.ensures.some in
    rw (fault.1, fault.2)
    (none_called c.args.on legs c.in_err-rows.field-0.0 (record { before = g.W.CountedWrite.calls c.args.writer.now; after = g.W.CountedWrite.calls c.args.writer.now }) finds refl)

-- ---- its rows are written

pub returns-clause-shows : goal.returns-clause-shows
returns-clause-shows g c =
    let old = c.args.book.now in
    let mid = c.read.new.book in
    let read = was_read g.S.Store old mid _ c.in_ok-prices.ensures.reads in
    let held = c.in_ok-rows.ensures in
    let wrote = c.write_rows.ensures in
    record {
      holds = λ clean entries stands.
          let was = early (state g.S.Store mid.conn) (state g.S.Store c.held_on.new.book.conn) held.reads.crash clean in
          let (list, are, same) = c.in_ok-prices.ensures.prices.holds was entries stands in (
            list,
            are,
            found c.args.form c.args.on (listed list) c.in_ok-rows.rows _ _ (dated_legs entries) c.write_rows.result
                (held.finds.holds clean entries (stands_still (state g.S.Store old.conn) (state g.S.Store mid.conn) entries (read.same was) stands)) wrote.fault
                (shows_listed c.args.form c.in_ok-prices.prices c.in_ok-rows.rows.items _ _ c.write_rows.result wrote.shows list same),
          );
    }

pub returns-clause-some : goal.returns-clause-some
returns-clause-some g c =
    let (legs, finds) = c.in_ok-rows.ensures.some in
    let wrote = c.write_rows.ensures in (
      kept c.in_ok-prices.prices,
      legs,
      found c.args.form c.args.on (kept c.in_ok-prices.prices) c.in_ok-rows.rows _ _ legs c.write_rows.result finds wrote.fault
          (shows_kept c.args.form c.in_ok-prices.prices c.in_ok-rows.rows.items _ _ c.write_rows.result wrote.shows),
    )

pub returns-clause-rows : goal.returns-clause-rows
returns-clause-rows g c =
    let old = c.args.book.now in
    let mid = c.read.new.book in
    let read = was_read g.S.Store old mid _ c.in_ok-prices.ensures.reads in
    let held = c.in_ok-rows.ensures in
    let wrote = c.write_rows.ensures in
    record {
      holds = λ clean tables has.
          let was = early (state g.S.Store mid.conn) (state g.S.Store c.held_on.new.book.conn) held.reads.crash clean in
          all_found c.args.form c.args.on c.args.day tables c.in_ok-rows.rows _ _ c.write_rows.result
          (held.rows.holds clean tables (has_still (state g.S.Store old.conn) (state g.S.Store mid.conn) tables (read.same was) has)) wrote.fault
          (shows_listed c.args.form c.in_ok-prices.prices c.in_ok-rows.rows.items _ _ c.write_rows.result wrote.shows (prices_by c.args.day tables.price)
          (c.in_ok-prices.ensures.rows.holds was tables has));
    }

pub returns-clause-reads : goal.returns-clause-reads
returns-clause-reads g c =
    let old = c.args.book.now in
    let mid = c.read.new.book in
    let new = c.held_on.new.book in
    let reads = c.in_ok-prices.ensures.reads in
    reads_rows g.S.Store old new c.args.form Values (map (valued_with (Some c.in_ok-prices.prices)) c.in_ok-rows.rows.items) _ _ c.write_rows.result
    (read_then g.S.Store old mid new (was_read g.S.Store old mid _ reads) (was_read g.S.Store mid new _ c.in_ok-rows.ensures.reads))
    (λ spent. let is = reads.reopen.1 spent in cc) c.write_rows.ensures.fault c.write_rows.ensures.shows
