-- The last line stands behind what was hashed.
use Rattle.std.proofs.lemmas.Result.{err_from_is_err_and}
use Rattle.lot_stored.specs.Rows.{entry_rows}
use Rattle.lot_store.specs.Extent.{extent_of}
use Rattle.lot_book_report.proofs.DumpLemmas.{end_stops, end_written, ends_early, print_reads, same_stop}
use Rattle.lot_book_report.proofs.ReadLemmas.{reads_whole, was_read}
use Rattle.lot_book_report.proofs.dump.show_dump.Goals as goal

pub returns-in_err-digest-clause-shows : goal.returns-in_err-digest-clause-shows
returns-in_err-digest-clause-shows g c =
    let fault = err_from_is_err_and c.from_residual.result c.from_residual.ensures.1 in
    rw (fault.1, fault.2) (record {
      holds = λ clean entries stands.
          ends_early (extent_of stands.stand.place entries) (entry_rows 1 entries) _ _ c.in_err-digest.field-0.0
          (c.in_err-digest.ensures.shows.holds clean entries stands);
    })

pub returns-in_err-digest-clause-lines : goal.returns-in_err-digest-clause-lines
returns-in_err-digest-clause-lines g c =
    let fault = err_from_is_err_and c.from_residual.result c.from_residual.ensures.1 in
    let some = c.in_err-digest.ensures.lines in
    rw (fault.1, fault.2) (some.0, some.1, ends_early some.0 some.1 _ _ c.in_err-digest.field-0.0 some.2)

pub returns-in_err-digest-clause-reads : goal.returns-in_err-digest-clause-reads
returns-in_err-digest-clause-reads g c =
    let fault = err_from_is_err_and c.from_residual.result c.from_residual.ensures.1 in
    rw (fault.1, fault.2) (same_stop g.S.Store c.args.book.now c.write_body.new.book c.in_err-digest.field-0.0 c.in_err-digest.ensures.reads)

pub returns-in_err-print_behind-clause-shows : goal.returns-in_err-print_behind-clause-shows
returns-in_err-print_behind-clause-shows g c =
    let fault = err_from_is_err_and c.from_residual-in_err-print_behind.result c.from_residual-in_err-print_behind.ensures.1 in
    let line = c.in_err-print_behind.ensures in
    rw (fault.1, fault.2) (record {
      holds = λ clean entries stands.
          let body = c.in_ok-digest.ensures.shows.holds clean entries stands in
          end_stops (extent_of stands.stand.place entries) (entry_rows 1 entries) _ _ _ body.0 _ body.1 c.in_err-print_behind.field-0.0 line.fault line.bytes;
    })

pub returns-in_err-print_behind-clause-lines : goal.returns-in_err-print_behind-clause-lines
returns-in_err-print_behind-clause-lines g c =
    let fault = err_from_is_err_and c.from_residual-in_err-print_behind.result c.from_residual-in_err-print_behind.ensures.1 in
    let line = c.in_err-print_behind.ensures in
    let some = c.in_ok-digest.ensures.lines in
    rw (fault.1, fault.2)
    (some.0, some.1, end_stops some.0 some.1 _ _ _ some.2.0 _ some.2.1 c.in_err-print_behind.field-0.0 line.fault line.bytes)

pub returns-in_err-print_behind-clause-reads : goal.returns-in_err-print_behind-clause-reads
returns-in_err-print_behind-clause-reads g c =
    let fault = err_from_is_err_and c.from_residual-in_err-print_behind.result c.from_residual-in_err-print_behind.ensures.1 in
    let reads = c.in_ok-digest.ensures.reads in
    rw (fault.1, fault.2)
    (print_reads g.S.Store c.args.book.now c.write_body.new.book c.in_err-print_behind.field-0.0
    (was_read g.S.Store c.args.book.now c.write_body.new.book _ reads) (λ spent. let is = reads.reopen.1 spent in cc))

pub returns-clause-reads : goal.returns-clause-reads
returns-clause-reads g c =
    let reads = c.in_ok-digest.ensures.reads in
    reads_whole g.S.Store c.args.book.now c.write_body.new.book _
    (was_read g.S.Store c.args.book.now c.write_body.new.book _ reads) (λ spent. let is = reads.reopen.1 spent in cc)

pub returns-clause-shows : goal.returns-clause-shows
returns-clause-shows g c = record {
  holds = λ clean entries stands.
      let body = c.in_ok-digest.ensures.shows.holds clean entries stands in
      end_written (extent_of stands.stand.place entries) (entry_rows 1 entries) _ _ _ body.0 _ body.1 c.in_ok-print_behind.ensures.bytes;
}

pub returns-clause-lines : goal.returns-clause-lines
returns-clause-lines g c =
    let some = c.in_ok-digest.ensures.lines in
    (some.0, some.1, end_written some.0 some.1 _ _ _ some.2.0 _ some.2.1 c.in_ok-print_behind.ensures.bytes)

pub returns-clause-rows : goal.returns-clause-rows
returns-clause-rows g c = record {
  holds = λ clean tables has.
      let some = c.in_ok-digest.ensures.rows.holds clean tables has in
      (some.0, some.1, end_written some.0 tables.entry _ _ _ some.2 _ some.3 c.in_ok-print_behind.ensures.bytes);
}
