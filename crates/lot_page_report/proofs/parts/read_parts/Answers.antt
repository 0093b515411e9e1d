-- One reading follows another, and none changes the book.
use Rattle.std.proofs.Common.{Err, ap}
use Rattle.std.proofs.lemmas.Result.{err_from_is_err_and}
use Rattle.sqlite.specs.Held.{state}
use Rattle.lot_book_report.proofs.ReadLemmas.{read_then, reads_then, was_read}
use Rattle.lot_rows.proofs.StateLemmas.{early}
use Rattle.lot_store.proofs.ApplyLemmas.{stands_along}
use Rattle.lot_page_report.specs.OutOfRange.{GainsLeave}
use Rattle.lot_page_report.specs.Parts.{page_in}
use Rattle.lot_walk.proofs.PlaceLemmas.{has_still}
use Rattle.lot_page_report.proofs.MadeLemmas.{range_covered}
use Rattle.lot_page_report.proofs.ReadLemmas.{made_of, unread, usable, usable_still}
use Rattle.lot_page_report.proofs.parts.read_parts.Goals as goal

pub returns-in_err-counted : goal.returns-in_err-counted
returns-in_err-counted g c =
    let fault = err_from_is_err_and c.from_residual.result c.from_residual.ensures.1 in
    rw (fault.1, fault.2) (unread g.S.Store _ _ _ _ c.args.book.now c.read_entries.new.book c.in_err-counted.field-0.0 c.in_err-counted.ensures.reads c.in_err-counted.ensures.unwritten
    (λ clean entries stands is. absurd (c.in_err-counted.ensures.range.holds clean entries stands (ap Err is))))

pub returns-in_err-digest : goal.returns-in_err-digest
returns-in_err-digest g c =
    let fault = err_from_is_err_and c.from_residual-in_err-digest.result c.from_residual-in_err-digest.ensures.1 in
    rw (fault.1, fault.2) (unread g.S.Store _ _ _ _ c.args.book.now c.read_digest.new.book c.in_err-digest.field-0.0 (reads_then g.S.Store c.args.book.now c.read_entries.new.book c.read_digest.new.book (was_read g.S.Store c.args.book.now c.read_entries.new.book _ c.in_ok-counted.ensures.reads) (Err c.in_err-digest.field-0.0) (c.in_err-digest.ensures (usable_still g.S.Store c.args.book.now c.read_entries.new.book (was_read g.S.Store c.args.book.now c.read_entries.new.book _ c.in_ok-counted.ensures.reads) (usable g.S.Store c.args.book.now c.read_entries.new.book _ c.in_ok-counted.ensures.reads))).reads) (c.in_err-digest.ensures (usable_still g.S.Store c.args.book.now c.read_entries.new.book (was_read g.S.Store c.args.book.now c.read_entries.new.book _ c.in_ok-counted.ensures.reads) (usable g.S.Store c.args.book.now c.read_entries.new.book _ c.in_ok-counted.ensures.reads))).unwritten
    (λ clean-2 entries stands is.
    let clean-1 = early (state g.S.Store c.read_entries.new.book.conn) (state g.S.Store c.read_digest.new.book.conn) (c.in_err-digest.ensures (usable_still g.S.Store c.args.book.now c.read_entries.new.book (was_read g.S.Store c.args.book.now c.read_entries.new.book _ c.in_ok-counted.ensures.reads) (usable g.S.Store c.args.book.now c.read_entries.new.book _ c.in_ok-counted.ensures.reads))).reads.crash clean-2 in
    let stands-1 = stands_along (state g.S.Store c.args.book.now.conn) (state g.S.Store c.read_entries.new.book.conn) entries ((was_read g.S.Store c.args.book.now c.read_entries.new.book _ c.in_ok-counted.ensures.reads).same clean-1).now stands in
    absurd ((c.in_err-digest.ensures (usable_still g.S.Store c.args.book.now c.read_entries.new.book (was_read g.S.Store c.args.book.now c.read_entries.new.book _ c.in_ok-counted.ensures.reads) (usable g.S.Store c.args.book.now c.read_entries.new.book _ c.in_ok-counted.ensures.reads))).range.holds clean-2 entries stands-1 (ap Err is))))

pub returns-in_err-sales : goal.returns-in_err-sales
returns-in_err-sales g c =
    let fault = err_from_is_err_and c.from_residual-in_err-sales.result c.from_residual-in_err-sales.ensures.1 in
    rw (fault.1, fault.2) (unread g.S.Store _ _ _ _ c.args.book.now c.read_sales.new.book c.in_err-sales.field-0.0 (reads_then g.S.Store c.args.book.now c.read_digest.new.book c.read_sales.new.book (read_then g.S.Store c.args.book.now c.read_entries.new.book c.read_digest.new.book (was_read g.S.Store c.args.book.now c.read_entries.new.book _ c.in_ok-counted.ensures.reads) (was_read g.S.Store c.read_entries.new.book c.read_digest.new.book _ (c.in_ok-digest.ensures (usable_still g.S.Store c.args.book.now c.read_entries.new.book (was_read g.S.Store c.args.book.now c.read_entries.new.book _ c.in_ok-counted.ensures.reads) (usable g.S.Store c.args.book.now c.read_entries.new.book _ c.in_ok-counted.ensures.reads))).reads)) (Err c.in_err-sales.field-0.0) c.in_err-sales.ensures.reads) c.in_err-sales.ensures.unwritten
    (λ clean entries stands is.
    let clean-2 = early (state g.S.Store c.read_digest.new.book.conn) (state g.S.Store c.read_sales.new.book.conn) c.in_err-sales.ensures.reads.crash clean in
    let clean-1 = early (state g.S.Store c.read_entries.new.book.conn) (state g.S.Store c.read_digest.new.book.conn) (c.in_ok-digest.ensures (usable_still g.S.Store c.args.book.now c.read_entries.new.book (was_read g.S.Store c.args.book.now c.read_entries.new.book _ c.in_ok-counted.ensures.reads) (usable g.S.Store c.args.book.now c.read_entries.new.book _ c.in_ok-counted.ensures.reads))).reads.crash clean-2 in
    let stands-1 = stands_along (state g.S.Store c.args.book.now.conn) (state g.S.Store c.read_entries.new.book.conn) entries ((was_read g.S.Store c.args.book.now c.read_entries.new.book _ c.in_ok-counted.ensures.reads).same clean-1).now stands in
    let stands-2 = stands_along (state g.S.Store c.read_entries.new.book.conn) (state g.S.Store c.read_digest.new.book.conn) entries ((was_read g.S.Store c.read_entries.new.book c.read_digest.new.book _ (c.in_ok-digest.ensures (usable_still g.S.Store c.args.book.now c.read_entries.new.book (was_read g.S.Store c.args.book.now c.read_entries.new.book _ c.in_ok-counted.ensures.reads) (usable g.S.Store c.args.book.now c.read_entries.new.book _ c.in_ok-counted.ensures.reads))).reads).same clean-2).now stands-1 in
    let sales = c.in_err-sales.ensures.range.holds clean entries stands-2 (ap Err is) in
    GainsLeave sales.0 sales.1 sales.2))

pub returns-in_err-lots : goal.returns-in_err-lots
returns-in_err-lots g c =
    let fault = err_from_is_err_and c.from_residual-in_err-lots.result c.from_residual-in_err-lots.ensures.1 in
    rw (fault.1, fault.2) (unread g.S.Store _ _ _ _ c.args.book.now c.read_lots.new.book c.in_err-lots.field-0.0 (reads_then g.S.Store c.args.book.now c.read_sales.new.book c.read_lots.new.book (read_then g.S.Store c.args.book.now c.read_digest.new.book c.read_sales.new.book (read_then g.S.Store c.args.book.now c.read_entries.new.book c.read_digest.new.book (was_read g.S.Store c.args.book.now c.read_entries.new.book _ c.in_ok-counted.ensures.reads) (was_read g.S.Store c.read_entries.new.book c.read_digest.new.book _ (c.in_ok-digest.ensures (usable_still g.S.Store c.args.book.now c.read_entries.new.book (was_read g.S.Store c.args.book.now c.read_entries.new.book _ c.in_ok-counted.ensures.reads) (usable g.S.Store c.args.book.now c.read_entries.new.book _ c.in_ok-counted.ensures.reads))).reads)) (was_read g.S.Store c.read_digest.new.book c.read_sales.new.book _ c.in_ok-sales.ensures.reads)) (Err c.in_err-lots.field-0.0) c.in_err-lots.ensures.reads) c.in_err-lots.ensures.unwritten
    (λ clean entries stands is.
    let page = page_in c.args.scope.now in
    let clean-3 = early (state g.S.Store c.read_sales.new.book.conn) (state g.S.Store c.read_lots.new.book.conn) c.in_err-lots.ensures.reads.crash clean in
    let clean-2 = early (state g.S.Store c.read_digest.new.book.conn) (state g.S.Store c.read_sales.new.book.conn) c.in_ok-sales.ensures.reads.crash clean-3 in
    let clean-1 = early (state g.S.Store c.read_entries.new.book.conn) (state g.S.Store c.read_digest.new.book.conn) (c.in_ok-digest.ensures (usable_still g.S.Store c.args.book.now c.read_entries.new.book (was_read g.S.Store c.args.book.now c.read_entries.new.book _ c.in_ok-counted.ensures.reads) (usable g.S.Store c.args.book.now c.read_entries.new.book _ c.in_ok-counted.ensures.reads))).reads.crash clean-2 in
    let stands-1 = stands_along (state g.S.Store c.args.book.now.conn) (state g.S.Store c.read_entries.new.book.conn) entries ((was_read g.S.Store c.args.book.now c.read_entries.new.book _ c.in_ok-counted.ensures.reads).same clean-1).now stands in
    let stands-2 = stands_along (state g.S.Store c.read_entries.new.book.conn) (state g.S.Store c.read_digest.new.book.conn) entries ((was_read g.S.Store c.read_entries.new.book c.read_digest.new.book _ (c.in_ok-digest.ensures (usable_still g.S.Store c.args.book.now c.read_entries.new.book (was_read g.S.Store c.args.book.now c.read_entries.new.book _ c.in_ok-counted.ensures.reads) (usable g.S.Store c.args.book.now c.read_entries.new.book _ c.in_ok-counted.ensures.reads))).reads).same clean-2).now stands-1 in
    let stands-3 = stands_along (state g.S.Store c.read_digest.new.book.conn) (state g.S.Store c.read_sales.new.book.conn) entries ((was_read g.S.Store c.read_digest.new.book c.read_sales.new.book _ c.in_ok-sales.ensures.reads).same clean-3).now stands-2 in
    c.in_err-lots.ensures.range.holds clean entries stands-3 (ap Err is)
    (range_covered page _ _ _ c.range_of-range.result (c.in_ok-counted.ensures.book.holds clean-1 entries stands) c.covered.ensures c.range_of-range.ensures)))

pub returns : goal.returns
returns g c =
    let page = page_in c.args.scope.now in
    made_of g.S.Store _ _ _ _ c.args.book.now c.read_lots.new.book _ (read_then g.S.Store c.args.book.now c.read_sales.new.book c.read_lots.new.book (read_then g.S.Store c.args.book.now c.read_digest.new.book c.read_sales.new.book (read_then g.S.Store c.args.book.now c.read_entries.new.book c.read_digest.new.book (was_read g.S.Store c.args.book.now c.read_entries.new.book _ c.in_ok-counted.ensures.reads) (was_read g.S.Store c.read_entries.new.book c.read_digest.new.book _ (c.in_ok-digest.ensures (usable_still g.S.Store c.args.book.now c.read_entries.new.book (was_read g.S.Store c.args.book.now c.read_entries.new.book _ c.in_ok-counted.ensures.reads) (usable g.S.Store c.args.book.now c.read_entries.new.book _ c.in_ok-counted.ensures.reads))).reads)) (was_read g.S.Store c.read_digest.new.book c.read_sales.new.book _ c.in_ok-sales.ensures.reads)) (was_read g.S.Store c.read_sales.new.book c.read_lots.new.book _ c.in_ok-lots.ensures.reads)) (usable g.S.Store c.args.book.now c.read_entries.new.book _ c.in_ok-counted.ensures.reads)
    (record {
      holds = λ clean entries stands.
          let clean-3 = early (state g.S.Store c.read_sales.new.book.conn) (state g.S.Store c.read_lots.new.book.conn) c.in_ok-lots.ensures.reads.crash clean in
          let clean-2 = early (state g.S.Store c.read_digest.new.book.conn) (state g.S.Store c.read_sales.new.book.conn) c.in_ok-sales.ensures.reads.crash clean-3 in
          let clean-1 = early (state g.S.Store c.read_entries.new.book.conn) (state g.S.Store c.read_digest.new.book.conn) (c.in_ok-digest.ensures (usable_still g.S.Store c.args.book.now c.read_entries.new.book (was_read g.S.Store c.args.book.now c.read_entries.new.book _ c.in_ok-counted.ensures.reads) (usable g.S.Store c.args.book.now c.read_entries.new.book _ c.in_ok-counted.ensures.reads))).reads.crash clean-2 in
          let stands-1 = stands_along (state g.S.Store c.args.book.now.conn) (state g.S.Store c.read_entries.new.book.conn) entries ((was_read g.S.Store c.args.book.now c.read_entries.new.book _ c.in_ok-counted.ensures.reads).same clean-1).now stands in
          let stands-2 = stands_along (state g.S.Store c.read_entries.new.book.conn) (state g.S.Store c.read_digest.new.book.conn) entries ((was_read g.S.Store c.read_entries.new.book c.read_digest.new.book _ (c.in_ok-digest.ensures (usable_still g.S.Store c.args.book.now c.read_entries.new.book (was_read g.S.Store c.args.book.now c.read_entries.new.book _ c.in_ok-counted.ensures.reads) (usable g.S.Store c.args.book.now c.read_entries.new.book _ c.in_ok-counted.ensures.reads))).reads).same clean-2).now stands-1 in
          let stands-3 = stands_along (state g.S.Store c.read_digest.new.book.conn) (state g.S.Store c.read_sales.new.book.conn) entries ((was_read g.S.Store c.read_digest.new.book c.read_sales.new.book _ c.in_ok-sales.ensures.reads).same clean-3).now stands-2 in
          let counted = c.in_ok-counted.ensures.book.holds clean-1 entries stands in
          let sales = c.in_ok-sales.ensures.book.holds clean-3 entries stands-2 in
          record {
            counted = counted;
            digest = (c.in_ok-digest.ensures (usable_still g.S.Store c.args.book.now c.read_entries.new.book (was_read g.S.Store c.args.book.now c.read_entries.new.book _ c.in_ok-counted.ensures.reads) (usable g.S.Store c.args.book.now c.read_entries.new.book _ c.in_ok-counted.ensures.reads))).book.holds clean-2 entries stands-1;
            sold = sales.0;
            are_sold = sales.1;
            sales = sales.2;
            lots = c.in_ok-lots.ensures.book.holds clean entries stands-3
                (range_covered page _ _ _ c.range_of-range.result counted c.covered.ensures c.range_of-range.ensures);
          };
    })
    (record {
      holds = λ clean tables has.
          let clean-3 = early (state g.S.Store c.read_sales.new.book.conn) (state g.S.Store c.read_lots.new.book.conn) c.in_ok-lots.ensures.reads.crash clean in
          let clean-2 = early (state g.S.Store c.read_digest.new.book.conn) (state g.S.Store c.read_sales.new.book.conn) c.in_ok-sales.ensures.reads.crash clean-3 in
          let clean-1 = early (state g.S.Store c.read_entries.new.book.conn) (state g.S.Store c.read_digest.new.book.conn) (c.in_ok-digest.ensures (usable_still g.S.Store c.args.book.now c.read_entries.new.book (was_read g.S.Store c.args.book.now c.read_entries.new.book _ c.in_ok-counted.ensures.reads) (usable g.S.Store c.args.book.now c.read_entries.new.book _ c.in_ok-counted.ensures.reads))).reads.crash clean-2 in
          let has-1 = has_still (state g.S.Store c.args.book.now.conn) (state g.S.Store c.read_entries.new.book.conn) tables ((was_read g.S.Store c.args.book.now c.read_entries.new.book _ c.in_ok-counted.ensures.reads).same clean-1) has in
          let has-2 = has_still (state g.S.Store c.read_entries.new.book.conn) (state g.S.Store c.read_digest.new.book.conn) tables ((was_read g.S.Store c.read_entries.new.book c.read_digest.new.book _ (c.in_ok-digest.ensures (usable_still g.S.Store c.args.book.now c.read_entries.new.book (was_read g.S.Store c.args.book.now c.read_entries.new.book _ c.in_ok-counted.ensures.reads) (usable g.S.Store c.args.book.now c.read_entries.new.book _ c.in_ok-counted.ensures.reads))).reads).same clean-2) has-1 in
          let has-3 = has_still (state g.S.Store c.read_digest.new.book.conn) (state g.S.Store c.read_sales.new.book.conn) tables ((was_read g.S.Store c.read_digest.new.book c.read_sales.new.book _ c.in_ok-sales.ensures.reads).same clean-3) has-2 in
          let sales = c.in_ok-sales.ensures.tables.holds clean-3 tables has-2 in
          record {
            counted = c.in_ok-counted.ensures.tables.holds clean-1 tables has;
            digest = (c.in_ok-digest.ensures (usable_still g.S.Store c.args.book.now c.read_entries.new.book (was_read g.S.Store c.args.book.now c.read_entries.new.book _ c.in_ok-counted.ensures.reads) (usable g.S.Store c.args.book.now c.read_entries.new.book _ c.in_ok-counted.ensures.reads))).tables.holds clean-2 tables has-1;
            sold = sales.0;
            are_sold = sales.1;
            sales = sales.2;
            lots = c.in_ok-lots.ensures.tables.holds clean tables has-3
                (range_covered page _ _ _ c.range_of-range.result (c.in_ok-counted.ensures.tables.holds clean-1 tables has) c.covered.ensures c.range_of-range.ensures);
          };
    })
    (record { rows = c.in_ok-counted.ensures.any.0; counted = c.in_ok-counted.ensures.any.1 })
