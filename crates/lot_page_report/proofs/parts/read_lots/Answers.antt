-- One reading follows another, and none changes the book.
use Rattle.std.proofs.Common.{◌∙◌, ℤ, Err, ap, subst}
use Rattle.std.proofs.lemmas.Result.{err_from_is_err_and}
use Rattle.sqlite.specs.Held.{state}
use Rattle.lot_book_report.proofs.ReadLemmas.{read_then, reads_then, was_read}
use Rattle.lot_rows.proofs.StateLemmas.{early}
use Rattle.lot_report.specs.declared.fault.ReportFault.TheVariants.{Range}
use Rattle.lot_store.proofs.ApplyLemmas.{stands_along}
use Rattle.lot_page_report.specs.Parts.{page_in}
use Rattle.lot_book_report.specs.Holdings.{KeepsPrices, KeepsRowPrices}
use Rattle.lot_legs.specs.Legs.{dated_legs}
use Rattle.lot_walk.proofs.PlaceLemmas.{has_still}
use Rattle.lot_page_report.specs.Read.{HasAllLegs}
use Rattle.lot_page_report.proofs.MadeLemmas.{book_unwritten, legs_leave, lot_rows_are, lots_are, lots_leave}
use Rattle.lot_page_report.proofs.ReadLemmas.{book_in_range, made_of, same_report, short_of, unread, usable, usable_still}
use Rattle.lot_page_report.proofs.parts.read_lots.Goals as goal

pub returns-in_err-prices : goal.returns-in_err-prices
returns-in_err-prices g c =
    let fault = err_from_is_err_and c.from_residual.result c.from_residual.ensures.1 in
    rw (fault.1, fault.2) (unread g.S.Store _ _ _ _ c.args.book.now c.read.new.book c.in_err-prices.field-0.0 c.in_err-prices.ensures.reads (book_unwritten c.in_err-prices.field-0.0 c.in_err-prices.ensures.fault)
    (λ clean entries stands is. absurd (book_in_range c.in_err-prices.field-0.0 c.in_err-prices.ensures.fault is)))

pub returns-in_err-quotes : goal.returns-in_err-quotes
returns-in_err-quotes g c =
    let fault = err_from_is_err_and c.from_residual-in_err-quotes.result c.from_residual-in_err-quotes.ensures.1 in
    rw (fault.1, fault.2) (unread g.S.Store _ _ _ _ c.args.book.now c.read_quotes.new.book c.in_err-quotes.field-0.0 (reads_then g.S.Store c.args.book.now c.read.new.book c.read_quotes.new.book (was_read g.S.Store c.args.book.now c.read.new.book _ c.in_ok-prices.ensures.reads) (Err c.in_err-quotes.field-0.0) (c.in_err-quotes.ensures (usable_still g.S.Store c.args.book.now c.read.new.book (was_read g.S.Store c.args.book.now c.read.new.book _ c.in_ok-prices.ensures.reads) (usable g.S.Store c.args.book.now c.read.new.book _ c.in_ok-prices.ensures.reads))).reads) (c.in_err-quotes.ensures (usable_still g.S.Store c.args.book.now c.read.new.book (was_read g.S.Store c.args.book.now c.read.new.book _ c.in_ok-prices.ensures.reads) (usable g.S.Store c.args.book.now c.read.new.book _ c.in_ok-prices.ensures.reads))).unwritten
    (λ clean entries stands is.
    let clean-1 = early (state g.S.Store c.read.new.book.conn) (state g.S.Store c.read_quotes.new.book.conn) (c.in_err-quotes.ensures (usable_still g.S.Store c.args.book.now c.read.new.book (was_read g.S.Store c.args.book.now c.read.new.book _ c.in_ok-prices.ensures.reads) (usable g.S.Store c.args.book.now c.read.new.book _ c.in_ok-prices.ensures.reads))).reads.crash clean in
    let stands-1 = stands_along (state g.S.Store c.args.book.now.conn) (state g.S.Store c.read.new.book.conn) entries ((was_read g.S.Store c.args.book.now c.read.new.book _ c.in_ok-prices.ensures.reads).same clean-1).now stands in
    absurd ((c.in_err-quotes.ensures (usable_still g.S.Store c.args.book.now c.read.new.book (was_read g.S.Store c.args.book.now c.read.new.book _ c.in_ok-prices.ensures.reads) (usable g.S.Store c.args.book.now c.read.new.book _ c.in_ok-prices.ensures.reads))).range.holds clean entries stands-1 (ap Err is))))

pub returns-in_err-legs : goal.returns-in_err-legs
returns-in_err-legs g c =
    let fault = err_from_is_err_and c.from_residual-in_err-legs.result c.from_residual-in_err-legs.ensures.1 in
    rw (fault.1, fault.2) (unread g.S.Store _ _ _ _ c.args.book.now c.read_legs.new.book c.in_err-legs.field-0.0 (reads_then g.S.Store c.args.book.now c.read_quotes.new.book c.read_legs.new.book (read_then g.S.Store c.args.book.now c.read.new.book c.read_quotes.new.book (was_read g.S.Store c.args.book.now c.read.new.book _ c.in_ok-prices.ensures.reads) (was_read g.S.Store c.read.new.book c.read_quotes.new.book _ (c.in_ok-quotes.ensures (usable_still g.S.Store c.args.book.now c.read.new.book (was_read g.S.Store c.args.book.now c.read.new.book _ c.in_ok-prices.ensures.reads) (usable g.S.Store c.args.book.now c.read.new.book _ c.in_ok-prices.ensures.reads))).reads)) (Err c.in_err-legs.field-0.0) c.in_err-legs.ensures.reads) c.in_err-legs.ensures.unwritten
    (λ clean entries stands is is_range.
    let clean-2 = early (state g.S.Store c.read_quotes.new.book.conn) (state g.S.Store c.read_legs.new.book.conn) c.in_err-legs.ensures.reads.crash clean in
    let clean-1 = early (state g.S.Store c.read.new.book.conn) (state g.S.Store c.read_quotes.new.book.conn) (c.in_ok-quotes.ensures (usable_still g.S.Store c.args.book.now c.read.new.book (was_read g.S.Store c.args.book.now c.read.new.book _ c.in_ok-prices.ensures.reads) (usable g.S.Store c.args.book.now c.read.new.book _ c.in_ok-prices.ensures.reads))).reads.crash clean-2 in
    let stands-1 = stands_along (state g.S.Store c.args.book.now.conn) (state g.S.Store c.read.new.book.conn) entries ((was_read g.S.Store c.args.book.now c.read.new.book _ c.in_ok-prices.ensures.reads).same clean-1).now stands in
    let stands-2 = stands_along (state g.S.Store c.read.new.book.conn) (state g.S.Store c.read_quotes.new.book.conn) entries ((was_read g.S.Store c.read.new.book c.read_quotes.new.book _ (c.in_ok-quotes.ensures (usable_still g.S.Store c.args.book.now c.read.new.book (was_read g.S.Store c.args.book.now c.read.new.book _ c.in_ok-prices.ensures.reads) (usable g.S.Store c.args.book.now c.read.new.book _ c.in_ok-prices.ensures.reads))).reads).same clean-2).now stands-1 in
    legs_leave (page_in c.args.scope.now) entries c.args.range.now is_range (c.in_err-legs.ensures.range.holds clean entries stands-2 (ap Err is))))

pub returns-in-Err : goal.returns-in-Err
returns-in-Err g c =
    let cause = rw c.in-Err.is at c.lots_of.ensures.cause in
    short_of g.S.Store _ _ _ _ c.args.book.now c.read_legs.new.book c.in-Err.fault cause (read_then g.S.Store c.args.book.now c.read_quotes.new.book c.read_legs.new.book (read_then g.S.Store c.args.book.now c.read.new.book c.read_quotes.new.book (was_read g.S.Store c.args.book.now c.read.new.book _ c.in_ok-prices.ensures.reads) (was_read g.S.Store c.read.new.book c.read_quotes.new.book _ (c.in_ok-quotes.ensures (usable_still g.S.Store c.args.book.now c.read.new.book (was_read g.S.Store c.args.book.now c.read.new.book _ c.in_ok-prices.ensures.reads) (usable g.S.Store c.args.book.now c.read.new.book _ c.in_ok-prices.ensures.reads))).reads)) (was_read g.S.Store c.read_quotes.new.book c.read_legs.new.book _ c.in_ok-legs.ensures.reads)) (usable g.S.Store c.args.book.now c.read.new.book _ c.in_ok-prices.ensures.reads)
    (λ clean entries stands is is_range.
    let clean-2 = early (state g.S.Store c.read_quotes.new.book.conn) (state g.S.Store c.read_legs.new.book.conn) c.in_ok-legs.ensures.reads.crash clean in
    let clean-1 = early (state g.S.Store c.read.new.book.conn) (state g.S.Store c.read_quotes.new.book.conn) (c.in_ok-quotes.ensures (usable_still g.S.Store c.args.book.now c.read.new.book (was_read g.S.Store c.args.book.now c.read.new.book _ c.in_ok-prices.ensures.reads) (usable g.S.Store c.args.book.now c.read.new.book _ c.in_ok-prices.ensures.reads))).reads.crash clean-2 in
    let stands-1 = stands_along (state g.S.Store c.args.book.now.conn) (state g.S.Store c.read.new.book.conn) entries ((was_read g.S.Store c.args.book.now c.read.new.book _ c.in_ok-prices.ensures.reads).same clean-1).now stands in
    let stands-2 = stands_along (state g.S.Store c.read.new.book.conn) (state g.S.Store c.read_quotes.new.book.conn) entries ((was_read g.S.Store c.read.new.book c.read_quotes.new.book _ (c.in_ok-quotes.ensures (usable_still g.S.Store c.args.book.now c.read.new.book (was_read g.S.Store c.args.book.now c.read.new.book _ c.in_ok-prices.ensures.reads) (usable g.S.Store c.args.book.now c.read.new.book _ c.in_ok-prices.ensures.reads))).reads).same clean-2).now stands-1 in
    lots_leave (page_in c.args.scope.now) entries c.args.range.now _ _ c.in_ok-prices.prices is_range
    (subst (λ (day : ℤ). KeepsPrices entries day c.in_ok-prices.prices) c.price_day.ensures
    (c.in_ok-prices.ensures.prices.holds clean-1 entries stands))
    (subst (λ (day : ℤ). HasAllLegs (day, c.args.range.now) (dated_legs entries) c.in_ok-legs.legs) c.end.ensures
    (c.in_ok-legs.ensures.book.holds clean entries stands-2))
    ((c.in_ok-quotes.ensures (usable_still g.S.Store c.args.book.now c.read.new.book (was_read g.S.Store c.args.book.now c.read.new.book _ c.in_ok-prices.ensures.reads) (usable g.S.Store c.args.book.now c.read.new.book _ c.in_ok-prices.ensures.reads))).book.holds clean-2 entries stands-1)
    (c.lots_of.ensures.range (c.in-Err.is ∙ ap Err (same_report c.in-Err.fault Range is))))

pub returns-in-Ok : goal.returns-in-Ok
returns-in-Ok g c =
    let page = page_in c.args.scope.now in
    let lots = rw c.in-Ok.is at c.lots_of.ensures.lots in
    made_of g.S.Store _ _ _ _ c.args.book.now c.read_legs.new.book _ (read_then g.S.Store c.args.book.now c.read_quotes.new.book c.read_legs.new.book (read_then g.S.Store c.args.book.now c.read.new.book c.read_quotes.new.book (was_read g.S.Store c.args.book.now c.read.new.book _ c.in_ok-prices.ensures.reads) (was_read g.S.Store c.read.new.book c.read_quotes.new.book _ (c.in_ok-quotes.ensures (usable_still g.S.Store c.args.book.now c.read.new.book (was_read g.S.Store c.args.book.now c.read.new.book _ c.in_ok-prices.ensures.reads) (usable g.S.Store c.args.book.now c.read.new.book _ c.in_ok-prices.ensures.reads))).reads)) (was_read g.S.Store c.read_quotes.new.book c.read_legs.new.book _ c.in_ok-legs.ensures.reads)) (usable g.S.Store c.args.book.now c.read.new.book _ c.in_ok-prices.ensures.reads)
    (record {
      holds = λ clean entries stands is_range.
          let clean-2 = early (state g.S.Store c.read_quotes.new.book.conn) (state g.S.Store c.read_legs.new.book.conn) c.in_ok-legs.ensures.reads.crash clean in
          let clean-1 = early (state g.S.Store c.read.new.book.conn) (state g.S.Store c.read_quotes.new.book.conn) (c.in_ok-quotes.ensures (usable_still g.S.Store c.args.book.now c.read.new.book (was_read g.S.Store c.args.book.now c.read.new.book _ c.in_ok-prices.ensures.reads) (usable g.S.Store c.args.book.now c.read.new.book _ c.in_ok-prices.ensures.reads))).reads.crash clean-2 in
          let stands-1 = stands_along (state g.S.Store c.args.book.now.conn) (state g.S.Store c.read.new.book.conn) entries ((was_read g.S.Store c.args.book.now c.read.new.book _ c.in_ok-prices.ensures.reads).same clean-1).now stands in
          let stands-2 = stands_along (state g.S.Store c.read.new.book.conn) (state g.S.Store c.read_quotes.new.book.conn) entries ((was_read g.S.Store c.read.new.book c.read_quotes.new.book _ (c.in_ok-quotes.ensures (usable_still g.S.Store c.args.book.now c.read.new.book (was_read g.S.Store c.args.book.now c.read.new.book _ c.in_ok-prices.ensures.reads) (usable g.S.Store c.args.book.now c.read.new.book _ c.in_ok-prices.ensures.reads))).reads).same clean-2).now stands-1 in
          lots_are page entries c.args.range.now _ _ _ _ is_range
          (subst (λ (day : ℤ). KeepsPrices entries day c.in_ok-prices.prices) c.price_day.ensures
          (c.in_ok-prices.ensures.prices.holds clean-1 entries stands))
          (subst (λ (day : ℤ). HasAllLegs (day, c.args.range.now) (dated_legs entries) c.in_ok-legs.legs) c.end.ensures
          (c.in_ok-legs.ensures.book.holds clean entries stands-2))
          ((c.in_ok-quotes.ensures (usable_still g.S.Store c.args.book.now c.read.new.book (was_read g.S.Store c.args.book.now c.read.new.book _ c.in_ok-prices.ensures.reads) (usable g.S.Store c.args.book.now c.read.new.book _ c.in_ok-prices.ensures.reads))).book.holds clean-2 entries stands-1) lots;
    })
    (record {
      holds = λ clean tables has is_range.
          let clean-2 = early (state g.S.Store c.read_quotes.new.book.conn) (state g.S.Store c.read_legs.new.book.conn) c.in_ok-legs.ensures.reads.crash clean in
          let clean-1 = early (state g.S.Store c.read.new.book.conn) (state g.S.Store c.read_quotes.new.book.conn) (c.in_ok-quotes.ensures (usable_still g.S.Store c.args.book.now c.read.new.book (was_read g.S.Store c.args.book.now c.read.new.book _ c.in_ok-prices.ensures.reads) (usable g.S.Store c.args.book.now c.read.new.book _ c.in_ok-prices.ensures.reads))).reads.crash clean-2 in
          let has-1 = has_still (state g.S.Store c.args.book.now.conn) (state g.S.Store c.read.new.book.conn) tables ((was_read g.S.Store c.args.book.now c.read.new.book _ c.in_ok-prices.ensures.reads).same clean-1) has in
          let has-2 = has_still (state g.S.Store c.read.new.book.conn) (state g.S.Store c.read_quotes.new.book.conn) tables ((was_read g.S.Store c.read.new.book c.read_quotes.new.book _ (c.in_ok-quotes.ensures (usable_still g.S.Store c.args.book.now c.read.new.book (was_read g.S.Store c.args.book.now c.read.new.book _ c.in_ok-prices.ensures.reads) (usable g.S.Store c.args.book.now c.read.new.book _ c.in_ok-prices.ensures.reads))).reads).same clean-2) has-1 in
          let (all, are, legs) = c.in_ok-legs.ensures.tables.holds clean tables has-2 in
          lot_rows_are page tables c.args.range.now _ _ _ _ is_range
          (subst (λ (day : ℤ). KeepsRowPrices tables day c.in_ok-prices.prices) c.price_day.ensures
          (c.in_ok-prices.ensures.rows.holds clean-1 tables has))
          (all, are, subst (λ (day : ℤ). HasAllLegs (day, c.args.range.now) all c.in_ok-legs.legs) c.end.ensures legs)
          ((c.in_ok-quotes.ensures (usable_still g.S.Store c.args.book.now c.read.new.book (was_read g.S.Store c.args.book.now c.read.new.book _ c.in_ok-prices.ensures.reads) (usable g.S.Store c.args.book.now c.read.new.book _ c.in_ok-prices.ensures.reads))).tables.holds clean-2 tables has-1) lots;
    })
    tt
