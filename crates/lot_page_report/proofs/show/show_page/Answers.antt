-- What was read makes the top, and the lists follow it.
use Rattle.std.proofs.Common.{◌∙◌, Err, Ok, ap, refl, subst, sym}
use Rattle.std.proofs.KnownBytes.{Appends-nil}
use Rattle.std.proofs.lemmas.Result.{err_from_is_err_and}
use Rattle.lot_book_report.proofs.CauseLemmas.{of_row, of_walk}
use Rattle.lot_book_report.proofs.HoldingLemmas.{same_fault}
use Rattle.lot_book_report.proofs.ReadLemmas.{read_then, reads_cut, reads_short, reads_then, was_read}
use Rattle.lot_rows.proofs.StateLemmas.{early}
use Rattle.lot_store.proofs.ApplyLemmas.{stands_along}
use Rattle.lot_walk.proofs.PlaceLemmas.{has_still}
use Rattle.sqlite.specs.Held.{state}
use Rattle.lot_report.specs.Report.{report_fault}
use Rattle.lot_report.specs.Written.{WritesLine}
use Rattle.lot_book_report.specs.declared.fault.ShowFault.TheVariants.{Row as AtRow}
use Rattle.lot_report.specs.declared.fault.ReportFault.TheVariants.{Range}
use Rattle.lot_report.specs.declared.fault.RowFault.TheVariants.{Report}
use Rattle.lot_store.specs.declared.fault.StoreFault.TheVariants.{Memory}
use Rattle.lot_store.specs.declared.walk.WalkFault.TheVariants.{Failed}
use Rattle.lot_page_report.specs.Parts.{page_in}
use Rattle.lot_page_report.proofs.PageLemmas.{cause_then, cut_front, cut_sales, cut_top, entries_of_book, front_of_book, none_of_book, sales_of_book, shows_some, shows_tables, top_of_book, unbegun, unwritten_cause}
use Rattle.lot_page_report.proofs.ReadLemmas.{print_in_range, same_error, usable, walk_in_range}
use Rattle.lot_page_report.proofs.show.show_page.Goals as goal

pub returns-in_err-parts-clause-shows : goal.returns-in_err-parts-clause-shows
returns-in_err-parts-clause-shows g c =
    let fault = err_from_is_err_and c.from_residual.result c.from_residual.ensures.1 in
    rw fault.1 (record {
      holds = λ clean entries stands. (
        none_of_book (page_in c.args.scope.now) stands.stand.place entries (g.W.CountedWrite.contents c.args.writer.now) fault.0,
        λ is. (
          c.in_err-parts.ensures.range.holds clean entries stands (ap Err (sym fault.2 ∙ same_error {A = Unit {0}} fault.0 (AtRow (Report Range)) is)),
          Appends-nil (g.W.CountedWrite.contents c.args.writer.now),
        ),
      );
    })

pub returns-in_err-parts-clause-some : goal.returns-in_err-parts-clause-some
returns-in_err-parts-clause-some g c =
    let fault = err_from_is_err_and c.from_residual.result c.from_residual.ensures.1 in
    rw fault.1 (unbegun (page_in c.args.scope.now) (g.W.CountedWrite.contents c.args.writer.now) fault.0, λ is. Appends-nil (g.W.CountedWrite.contents c.args.writer.now))

pub returns-in_err-parts-clause-rows : goal.returns-in_err-parts-clause-rows
returns-in_err-parts-clause-rows g c =
    let fault = err_from_is_err_and c.from_residual.result c.from_residual.ensures.1 in
    rw fault.1 (record { holds = λ clean tables has. tt })

pub returns-in_err-parts-clause-reads : goal.returns-in_err-parts-clause-reads
returns-in_err-parts-clause-reads g c =
    let fault = err_from_is_err_and c.from_residual.result c.from_residual.ensures.1 in
    rw (fault.1, fault.2) (same_fault g.S.Store c.args.book.now c.read_parts.new.book c.in_err-parts.field-0.0 c.in_err-parts.ensures.reads)

pub returns-in_err-parts-clause-cause : goal.returns-in_err-parts-clause-cause
returns-in_err-parts-clause-cause g c =
    let fault = err_from_is_err_and c.from_residual.result c.from_residual.ensures.1 in
    rw (fault.1, fault.2)
    (unwritten_cause c.in_err-parts.field-0.0 (record { before = g.W.CountedWrite.calls c.args.writer.now; after = g.W.CountedWrite.calls c.args.writer.now }) c.in_err-parts.ensures.unwritten refl)

pub returns-in_err-top-clause-shows : goal.returns-in_err-top-clause-shows
returns-in_err-top-clause-shows g c =
    let fault = err_from_is_err_and c.from_residual-in_err-top.result c.from_residual-in_err-top.ensures.1 in
    rw fault.1 (record {
      holds = λ clean entries stands. (none_of_book (page_in c.args.scope.now) stands.stand.place entries (g.W.CountedWrite.contents c.args.writer.now) fault.0, λ is. absurd (walk_in_range (Failed Memory) (ap Err (sym fault.2) ∙ is)));
    })

pub returns-in_err-top-clause-some : goal.returns-in_err-top-clause-some
returns-in_err-top-clause-some g c =
    let fault = err_from_is_err_and c.from_residual-in_err-top.result c.from_residual-in_err-top.ensures.1 in
    rw fault.1 (unbegun (page_in c.args.scope.now) (g.W.CountedWrite.contents c.args.writer.now) fault.0, λ is. absurd (walk_in_range (Failed Memory) (ap Err (sym fault.2) ∙ is)))

pub returns-in_err-top-clause-rows : goal.returns-in_err-top-clause-rows
returns-in_err-top-clause-rows g c =
    let fault = err_from_is_err_and c.from_residual-in_err-top.result c.from_residual-in_err-top.ensures.1 in
    rw fault.1 (record { holds = λ clean tables has. tt })

pub returns-in_err-top-clause-reads : goal.returns-in_err-top-clause-reads
returns-in_err-top-clause-reads g c =
    let fault = err_from_is_err_and c.from_residual-in_err-top.result c.from_residual-in_err-top.ensures.1 in
    rw (fault.1, fault.2) (reads_short g.S.Store c.args.book.now c.read_parts.new.book (was_read g.S.Store c.args.book.now c.read_parts.new.book c.in_ok-parts.parts c.in_ok-parts.ensures.reads) (usable g.S.Store c.args.book.now c.read_parts.new.book c.in_ok-parts.parts c.in_ok-parts.ensures.reads))

pub returns-in_err-top-clause-cause : goal.returns-in_err-top-clause-cause
returns-in_err-top-clause-cause g c =
    of_walk c.from_residual-in_err-top.result (Failed Memory) (record { before = g.W.CountedWrite.calls c.args.writer.now; after = g.W.CountedWrite.calls c.args.writer.now }) c.from_residual-in_err-top.ensures.1 refl

pub returns-in_err-put_text-clause-shows : goal.returns-in_err-put_text-clause-shows
returns-in_err-put_text-clause-shows g c =
    let fault = err_from_is_err_and c.from_residual-in_err-put_text.result c.from_residual-in_err-put_text.ensures.1 in
    rw (fault.1, fault.2) (record {
      holds = λ clean entries stands. (
        top_of_book (page_in c.args.scope.now) c.in_ok-parts.parts c.in_ok-top.ensures.0 c.in_ok-top.ensures.1 stands.stand.place entries (c.in_ok-parts.ensures.book.holds clean entries stands) (g.W.CountedWrite.contents c.args.writer.now) (g.W.CountedWrite.contents c.put_text.new.writer) c.in_err-put_text.field-0.0 (Report (report_fault c.in_err-put_text.field-0.0)) (subst (WritesLine (g.W.CountedWrite.contents c.args.writer.now) (g.W.CountedWrite.contents c.put_text.new.writer) (Err c.in_err-put_text.field-0.0)) (c.as_str.ensures.value ∙ c.in_ok-top.ensures.2) c.in_err-put_text.ensures.bytes),
        λ is. absurd (print_in_range c.in_err-put_text.field-0.0 is),
      );
    })

pub returns-in_err-put_text-clause-some : goal.returns-in_err-put_text-clause-some
returns-in_err-put_text-clause-some g c =
    let fault = err_from_is_err_and c.from_residual-in_err-put_text.result c.from_residual-in_err-put_text.ensures.1 in
    rw (fault.1, fault.2) (cut_top (page_in c.args.scope.now) c.in_ok-parts.parts c.in_ok-top.ensures.0 c.in_ok-top.ensures.1 c.in_ok-parts.ensures.any.rows c.in_ok-parts.ensures.any.counted (g.W.CountedWrite.contents c.args.writer.now) (g.W.CountedWrite.contents c.put_text.new.writer) c.in_err-put_text.field-0.0 (Report (report_fault c.in_err-put_text.field-0.0)) (subst (WritesLine (g.W.CountedWrite.contents c.args.writer.now) (g.W.CountedWrite.contents c.put_text.new.writer) (Err c.in_err-put_text.field-0.0)) (c.as_str.ensures.value ∙ c.in_ok-top.ensures.2) c.in_err-put_text.ensures.bytes), λ is. absurd (print_in_range c.in_err-put_text.field-0.0 is))

pub returns-in_err-put_text-clause-rows : goal.returns-in_err-put_text-clause-rows
returns-in_err-put_text-clause-rows g c =
    let fault = err_from_is_err_and c.from_residual-in_err-put_text.result c.from_residual-in_err-put_text.ensures.1 in
    rw fault.1 (record { holds = λ clean tables has. tt })

pub returns-in_err-put_text-clause-reads : goal.returns-in_err-put_text-clause-reads
returns-in_err-put_text-clause-reads g c =
    let fault = err_from_is_err_and c.from_residual-in_err-put_text.result c.from_residual-in_err-put_text.ensures.1 in
    rw (fault.1, fault.2) (reads_cut g.S.Store c.args.book.now c.read_parts.new.book (Report (report_fault c.in_err-put_text.field-0.0)) (λ is. cc) (was_read g.S.Store c.args.book.now c.read_parts.new.book c.in_ok-parts.parts c.in_ok-parts.ensures.reads) (usable g.S.Store c.args.book.now c.read_parts.new.book c.in_ok-parts.parts c.in_ok-parts.ensures.reads))

pub returns-in_err-put_text-clause-cause : goal.returns-in_err-put_text-clause-cause
returns-in_err-put_text-clause-cause g c =
    of_row c.from_residual-in_err-put_text.result (Report (report_fault c.in_err-put_text.field-0.0)) (record { before = g.W.CountedWrite.calls c.args.writer.now; after = g.W.CountedWrite.calls c.put_text.new.writer })
    c.from_residual-in_err-put_text.ensures.1 (λ is. c.in_err-put_text.ensures.cause)

pub returns-in_err-show_sales-clause-shows : goal.returns-in_err-show_sales-clause-shows
returns-in_err-show_sales-clause-shows g c =
    let fault = err_from_is_err_and c.from_residual-in_err-show_sales.result c.from_residual-in_err-show_sales.ensures.1 in
    rw (fault.1, fault.2) (record {
      holds = λ clean entries stands.
          let first = early (state g.S.Store c.read_parts.new.book.conn) (state g.S.Store c.show_sales.new.book.conn) c.in_err-show_sales.ensures.reads.crash clean in
          let stood = stands_along (state g.S.Store c.args.book.now.conn) (state g.S.Store c.read_parts.new.book.conn) entries ((was_read g.S.Store c.args.book.now c.read_parts.new.book c.in_ok-parts.parts c.in_ok-parts.ensures.reads).same first).now stands in (
            sales_of_book (page_in c.args.scope.now) c.in_ok-parts.parts c.in_ok-top.ensures.0 c.in_ok-top.ensures.1 stands.stand.place entries (c.in_ok-parts.ensures.book.holds first entries stands) (g.W.CountedWrite.contents c.args.writer.now) (g.W.CountedWrite.contents c.put_text.new.writer) (subst (WritesLine (g.W.CountedWrite.contents c.args.writer.now) (g.W.CountedWrite.contents c.put_text.new.writer) (Ok _)) (c.as_str.ensures.value ∙ c.in_ok-top.ensures.2) c.in_ok-put_text.ensures.bytes) (g.W.CountedWrite.contents c.show_sales.new.writer) c.in_err-show_sales.field-0.0 (c.in_err-show_sales.ensures.shows.holds clean entries stood),
            λ is. absurd (c.in_err-show_sales.ensures.in_range is),
          );
    })

pub returns-in_err-show_sales-clause-some : goal.returns-in_err-show_sales-clause-some
returns-in_err-show_sales-clause-some g c =
    let fault = err_from_is_err_and c.from_residual-in_err-show_sales.result c.from_residual-in_err-show_sales.ensures.1 in
    rw (fault.1, fault.2) (cut_sales (page_in c.args.scope.now) c.in_ok-parts.parts c.in_ok-top.ensures.0 c.in_ok-top.ensures.1 c.in_ok-parts.ensures.any.rows c.in_ok-parts.ensures.any.counted (g.W.CountedWrite.contents c.args.writer.now) (g.W.CountedWrite.contents c.put_text.new.writer) (subst (WritesLine (g.W.CountedWrite.contents c.args.writer.now) (g.W.CountedWrite.contents c.put_text.new.writer) (Ok _)) (c.as_str.ensures.value ∙ c.in_ok-top.ensures.2) c.in_ok-put_text.ensures.bytes) (g.W.CountedWrite.contents c.show_sales.new.writer) c.in_err-show_sales.field-0.0 c.in_err-show_sales.ensures.some, λ is. absurd (c.in_err-show_sales.ensures.in_range is))

pub returns-in_err-show_sales-clause-rows : goal.returns-in_err-show_sales-clause-rows
returns-in_err-show_sales-clause-rows g c =
    let fault = err_from_is_err_and c.from_residual-in_err-show_sales.result c.from_residual-in_err-show_sales.ensures.1 in
    rw fault.1 (record { holds = λ clean tables has. tt })

pub returns-in_err-show_sales-clause-reads : goal.returns-in_err-show_sales-clause-reads
returns-in_err-show_sales-clause-reads g c =
    let fault = err_from_is_err_and c.from_residual-in_err-show_sales.result c.from_residual-in_err-show_sales.ensures.1 in
    rw (fault.1, fault.2) (reads_then g.S.Store c.args.book.now c.read_parts.new.book c.show_sales.new.book (was_read g.S.Store c.args.book.now c.read_parts.new.book c.in_ok-parts.parts c.in_ok-parts.ensures.reads) (Err c.in_err-show_sales.field-0.0) c.in_err-show_sales.ensures.reads)

pub returns-in_err-show_sales-clause-cause : goal.returns-in_err-show_sales-clause-cause
returns-in_err-show_sales-clause-cause g c =
    let fault = err_from_is_err_and c.from_residual-in_err-show_sales.result c.from_residual-in_err-show_sales.ensures.1 in
    rw (fault.1, fault.2)
    (cause_then (g.W.CountedWrite.calls c.args.writer.now) (g.W.CountedWrite.calls c.put_text.new.writer) (g.W.CountedWrite.calls c.show_sales.new.writer) (Err c.in_err-show_sales.field-0.0) c.in_ok-put_text.ensures.none_failed
    c.in_err-show_sales.ensures.cause)

pub returns-in_err-print_texts-clause-shows : goal.returns-in_err-print_texts-clause-shows
returns-in_err-print_texts-clause-shows g c =
    let fault = err_from_is_err_and c.from_residual-in_err-print_texts.result c.from_residual-in_err-print_texts.ensures.1 in
    rw (fault.1, fault.2) (record {
      holds = λ clean entries stands.
          let first = early (state g.S.Store c.read_parts.new.book.conn) (state g.S.Store c.show_sales.new.book.conn) c.in_ok-show_sales.ensures.reads.crash clean in
          let stood = stands_along (state g.S.Store c.args.book.now.conn) (state g.S.Store c.read_parts.new.book.conn) entries ((was_read g.S.Store c.args.book.now c.read_parts.new.book c.in_ok-parts.parts c.in_ok-parts.ensures.reads).same first).now stands in (
            front_of_book (page_in c.args.scope.now) c.in_ok-parts.parts c.in_ok-top.ensures.0 c.in_ok-top.ensures.1 stands.stand.place entries (c.in_ok-parts.ensures.book.holds first entries stands) (g.W.CountedWrite.contents c.args.writer.now) (g.W.CountedWrite.contents c.put_text.new.writer) (subst (WritesLine (g.W.CountedWrite.contents c.args.writer.now) (g.W.CountedWrite.contents c.put_text.new.writer) (Ok _)) (c.as_str.ensures.value ∙ c.in_ok-top.ensures.2) c.in_ok-put_text.ensures.bytes) (g.W.CountedWrite.contents c.show_sales.new.writer) _ (c.in_ok-show_sales.ensures.shows.holds clean entries stood) (g.W.CountedWrite.contents c.print_texts.new.writer) c.in_err-print_texts.field-0.0 (Report (report_fault c.in_err-print_texts.field-0.0)) c.in_err-print_texts.ensures.bytes,
            λ is. absurd (print_in_range c.in_err-print_texts.field-0.0 is),
          );
    })

pub returns-in_err-print_texts-clause-some : goal.returns-in_err-print_texts-clause-some
returns-in_err-print_texts-clause-some g c =
    let fault = err_from_is_err_and c.from_residual-in_err-print_texts.result c.from_residual-in_err-print_texts.ensures.1 in
    rw (fault.1, fault.2) (cut_front (page_in c.args.scope.now) c.in_ok-parts.parts c.in_ok-top.ensures.0 c.in_ok-top.ensures.1 c.in_ok-parts.ensures.any.rows c.in_ok-parts.ensures.any.counted (g.W.CountedWrite.contents c.args.writer.now) (g.W.CountedWrite.contents c.put_text.new.writer) (subst (WritesLine (g.W.CountedWrite.contents c.args.writer.now) (g.W.CountedWrite.contents c.put_text.new.writer) (Ok _)) (c.as_str.ensures.value ∙ c.in_ok-top.ensures.2) c.in_ok-put_text.ensures.bytes) c.in_ok-show_sales.ensures.some.0 (g.W.CountedWrite.contents c.show_sales.new.writer) c.in_ok-show_sales.ensures.some.1 (g.W.CountedWrite.contents c.print_texts.new.writer) c.in_err-print_texts.field-0.0 (Report (report_fault c.in_err-print_texts.field-0.0)) c.in_err-print_texts.ensures.bytes, λ is. absurd (print_in_range c.in_err-print_texts.field-0.0 is))

pub returns-in_err-print_texts-clause-rows : goal.returns-in_err-print_texts-clause-rows
returns-in_err-print_texts-clause-rows g c =
    let fault = err_from_is_err_and c.from_residual-in_err-print_texts.result c.from_residual-in_err-print_texts.ensures.1 in
    rw fault.1 (record { holds = λ clean tables has. tt })

pub returns-in_err-print_texts-clause-reads : goal.returns-in_err-print_texts-clause-reads
returns-in_err-print_texts-clause-reads g c =
    let fault = err_from_is_err_and c.from_residual-in_err-print_texts.result c.from_residual-in_err-print_texts.ensures.1 in
    rw (fault.1, fault.2) (reads_cut g.S.Store c.args.book.now c.show_sales.new.book (Report (report_fault c.in_err-print_texts.field-0.0)) (λ is. cc) (read_then g.S.Store c.args.book.now c.read_parts.new.book c.show_sales.new.book (was_read g.S.Store c.args.book.now c.read_parts.new.book c.in_ok-parts.parts c.in_ok-parts.ensures.reads) (was_read g.S.Store c.read_parts.new.book c.show_sales.new.book _ c.in_ok-show_sales.ensures.reads)) (usable g.S.Store c.args.book.now c.read_parts.new.book c.in_ok-parts.parts c.in_ok-parts.ensures.reads))

pub returns-in_err-print_texts-clause-cause : goal.returns-in_err-print_texts-clause-cause
returns-in_err-print_texts-clause-cause g c =
    of_row c.from_residual-in_err-print_texts.result (Report (report_fault c.in_err-print_texts.field-0.0)) (record { before = g.W.CountedWrite.calls c.args.writer.now; after = g.W.CountedWrite.calls c.print_texts.new.writer })
    c.from_residual-in_err-print_texts.ensures.1 (λ is. c.in_err-print_texts.ensures.cause)

pub returns-clause-some : goal.returns-clause-some
returns-clause-some g c = (
  shows_some (page_in c.args.scope.now) c.in_ok-parts.parts c.in_ok-top.ensures.0 c.in_ok-top.ensures.1 c.in_ok-parts.ensures.any.rows c.in_ok-parts.ensures.any.counted (g.W.CountedWrite.contents c.args.writer.now) (g.W.CountedWrite.contents c.put_text.new.writer) (subst (WritesLine (g.W.CountedWrite.contents c.args.writer.now) (g.W.CountedWrite.contents c.put_text.new.writer) (Ok _)) (c.as_str.ensures.value ∙ c.in_ok-top.ensures.2) c.in_ok-put_text.ensures.bytes) c.in_ok-show_sales.ensures.some.0 (g.W.CountedWrite.contents c.show_sales.new.writer) c.in_ok-show_sales.ensures.some.1 (g.W.CountedWrite.contents c.print_texts.new.writer) c.in_ok-print_texts.ensures.bytes (g.W.CountedWrite.contents c.show_entries.new.writer) c.show_entries.result c.show_entries.ensures.some,
  λ is. absurd (c.show_entries.ensures.in_range is),
)

pub returns-clause-shows : goal.returns-clause-shows
returns-clause-shows g c = record {
  holds = λ clean entries stands.
      let later = early (state g.S.Store c.show_sales.new.book.conn) (state g.S.Store c.show_entries.new.book.conn) c.show_entries.ensures.reads.crash clean in
      let first = early (state g.S.Store c.read_parts.new.book.conn) (state g.S.Store c.show_sales.new.book.conn) c.in_ok-show_sales.ensures.reads.crash later in
      let stood = stands_along (state g.S.Store c.args.book.now.conn) (state g.S.Store c.read_parts.new.book.conn) entries ((was_read g.S.Store c.args.book.now c.read_parts.new.book c.in_ok-parts.parts c.in_ok-parts.ensures.reads).same first).now stands in
      let stood_still = stands_along (state g.S.Store c.read_parts.new.book.conn) (state g.S.Store c.show_sales.new.book.conn) entries ((was_read g.S.Store c.read_parts.new.book c.show_sales.new.book _ c.in_ok-show_sales.ensures.reads).same later).now stood in (
        entries_of_book (page_in c.args.scope.now) c.in_ok-parts.parts c.in_ok-top.ensures.0 c.in_ok-top.ensures.1 stands.stand.place entries (c.in_ok-parts.ensures.book.holds first entries stands) (g.W.CountedWrite.contents c.args.writer.now) (g.W.CountedWrite.contents c.put_text.new.writer) (subst (WritesLine (g.W.CountedWrite.contents c.args.writer.now) (g.W.CountedWrite.contents c.put_text.new.writer) (Ok _)) (c.as_str.ensures.value ∙ c.in_ok-top.ensures.2) c.in_ok-put_text.ensures.bytes) (g.W.CountedWrite.contents c.show_sales.new.writer) _ (c.in_ok-show_sales.ensures.shows.holds later entries stood) (g.W.CountedWrite.contents c.print_texts.new.writer) (g.W.CountedWrite.contents c.show_entries.new.writer) c.in_ok-print_texts.ensures.bytes c.show_entries.result (c.show_entries.ensures.shows.holds clean entries stood_still),
        λ is. absurd (c.show_entries.ensures.in_range is),
      );
}

pub returns-clause-rows : goal.returns-clause-rows
returns-clause-rows g c = record {
  holds = λ clean tables has.
      let later = early (state g.S.Store c.show_sales.new.book.conn) (state g.S.Store c.show_entries.new.book.conn) c.show_entries.ensures.reads.crash clean in
      let first = early (state g.S.Store c.read_parts.new.book.conn) (state g.S.Store c.show_sales.new.book.conn) c.in_ok-show_sales.ensures.reads.crash later in
      let still = has_still (state g.S.Store c.args.book.now.conn) (state g.S.Store c.read_parts.new.book.conn) tables ((was_read g.S.Store c.args.book.now c.read_parts.new.book c.in_ok-parts.parts c.in_ok-parts.ensures.reads).same first) has in
      let there = has_still (state g.S.Store c.read_parts.new.book.conn) (state g.S.Store c.show_sales.new.book.conn) tables ((was_read g.S.Store c.read_parts.new.book c.show_sales.new.book _ c.in_ok-show_sales.ensures.reads).same later) still in
      shows_tables (page_in c.args.scope.now) c.in_ok-parts.parts c.in_ok-top.ensures.0 c.in_ok-top.ensures.1 (g.W.CountedWrite.contents c.args.writer.now) (g.W.CountedWrite.contents c.put_text.new.writer) (g.W.CountedWrite.contents c.show_sales.new.writer) (g.W.CountedWrite.contents c.print_texts.new.writer) (g.W.CountedWrite.contents c.show_entries.new.writer) (subst (WritesLine (g.W.CountedWrite.contents c.args.writer.now) (g.W.CountedWrite.contents c.put_text.new.writer) (Ok _)) (c.as_str.ensures.value ∙ c.in_ok-top.ensures.2) c.in_ok-put_text.ensures.bytes) c.in_ok-print_texts.ensures.bytes tables c.show_entries.result
      (c.in_ok-parts.ensures.tables.holds first tables has) (c.in_ok-show_sales.ensures.rows.holds later tables still)
      (c.show_entries.ensures.rows.holds clean tables there);
}

pub returns-clause-reads : goal.returns-clause-reads
returns-clause-reads g c = reads_then g.S.Store c.args.book.now c.show_sales.new.book c.show_entries.new.book (read_then g.S.Store c.args.book.now c.read_parts.new.book c.show_sales.new.book (was_read g.S.Store c.args.book.now c.read_parts.new.book c.in_ok-parts.parts c.in_ok-parts.ensures.reads) (was_read g.S.Store c.read_parts.new.book c.show_sales.new.book _ c.in_ok-show_sales.ensures.reads)) c.show_entries.result c.show_entries.ensures.reads

pub returns-clause-cause : goal.returns-clause-cause
returns-clause-cause g c =
    cause_then (g.W.CountedWrite.calls c.args.writer.now) (g.W.CountedWrite.calls c.print_texts.new.writer) (g.W.CountedWrite.calls c.show_entries.new.writer) c.show_entries.result
    (c.in_ok-print_texts.ensures.none_failed ∙ c.in_ok-show_sales.ensures.cause ∙ c.in_ok-put_text.ensures.none_failed) c.show_entries.ensures.cause
