-- How far the book goes is asked first; then the first line and the entries are written, and hashed.
use Rattle.std.proofs.Common.{[], Err, Ok, ap, inl, subst}
use Rattle.std.proofs.KnownBytes.{Appends-nil}
use Rattle.std.proofs.lemmas.Result.{err_from_is_err_and}
use Rattle.sha2.specs.Hashers.{Holds256}
use Rattle.sqlite.specs.Held.{state}
use Rattle.lot_rows.proofs.StateLemmas.{early}
use Rattle.lot_stored.specs.Rows.{entry_rows}
use Rattle.lot_walk.proofs.PlaceLemmas.{has_still}
use Rattle.lot_store.specs.Extent.{extent_of}
use Rattle.lot_store.specs.declared.extent.Extent.{Extent}
use Rattle.lot_book_report.specs.Dump.{ShowsBody}
use Rattle.lot_book_report.proofs.DumpLemmas.{body_whole, entries_end, head_stops, not_measured, print_reads, rows_whole, same_stop, was_measured}
use Rattle.lot_book_report.proofs.ReadLemmas.{read_then, reads_then, reads_whole, stands_still, was_read}
use Rattle.lot_book_report.proofs.dump.write_body.Goals as goal

pub returns-in_err-extent-clause-shows : goal.returns-in_err-extent-clause-shows
returns-in_err-extent-clause-shows g c =
    let fault = err_from_is_err_and c.from_residual.result c.from_residual.ensures.1 in
    rw (fault.1, fault.2) (record { holds = λ clean entries stands. inl (Appends-nil (g.W.CountedWrite.contents c.args.writer.now)) })

pub returns-in_err-extent-clause-lines : goal.returns-in_err-extent-clause-lines
returns-in_err-extent-clause-lines g c =
    let fault = err_from_is_err_and c.from_residual.result c.from_residual.ensures.1 in
    rw (fault.1, fault.2) (extent_of 0 [], [], inl (Appends-nil (g.W.CountedWrite.contents c.args.writer.now)))

pub returns-in_err-extent-clause-reads : goal.returns-in_err-extent-clause-reads
returns-in_err-extent-clause-reads g c =
    let fault = err_from_is_err_and c.from_residual.result c.from_residual.ensures.1 in
    let asked = c.in_err-extent.ensures in
    rw (fault.1, fault.2)
    (not_measured g.S.Store c.args.book.now c.extent.new.self c.in_err-extent.field-0.0 asked.measures asked.reopen asked.condition
    (λ is. asked.sure (ap Err is)) asked.left)

pub returns-in_err-write_head-clause-shows : goal.returns-in_err-write_head-clause-shows
returns-in_err-write_head-clause-shows g c =
    let fault = err_from_is_err_and c.from_residual-in_err-write_head.result c.from_residual-in_err-write_head.ensures.1 in
    let head = c.in_err-write_head.ensures in
    rw (fault.1, fault.2) (record {
      holds = λ clean entries stands.
          head_stops (extent_of stands.stand.place entries) (entry_rows 1 entries) _ _ c.in_err-write_head.field-0.0 head.fault
          (rw (c.in_ok-extent.ensures.measures.of_book clean entries stands) at head.bytes);
    })

pub returns-in_err-write_head-clause-lines : goal.returns-in_err-write_head-clause-lines
returns-in_err-write_head-clause-lines g c =
    let fault = err_from_is_err_and c.from_residual-in_err-write_head.result c.from_residual-in_err-write_head.ensures.1 in
    let head = c.in_err-write_head.ensures in
    rw (fault.1, fault.2) (c.in_ok-extent.extent, [], head_stops c.in_ok-extent.extent [] _ _ c.in_err-write_head.field-0.0 head.fault head.bytes)

pub returns-in_err-write_head-clause-reads : goal.returns-in_err-write_head-clause-reads
returns-in_err-write_head-clause-reads g c =
    let fault = err_from_is_err_and c.from_residual-in_err-write_head.result c.from_residual-in_err-write_head.ensures.1 in
    let asked = c.in_ok-extent.ensures in
    rw (fault.1, fault.2)
    (print_reads g.S.Store c.args.book.now c.extent.new.self c.in_err-write_head.field-0.0
    (was_measured g.S.Store c.args.book.now c.extent.new.self _ asked.measures asked.condition)
    (λ spent. let is = asked.reopen.1 spent in cc))

pub returns-in_err-write_entries-clause-shows : goal.returns-in_err-write_entries-clause-shows
returns-in_err-write_entries-clause-shows g c =
    let fault = err_from_is_err_and c.from_residual-in_err-write_entries.result c.from_residual-in_err-write_entries.ensures.1 in
    let old = c.args.book.now in
    let mid = c.extent.new.self in
    let asked = c.in_ok-extent.ensures in
    let wrote = c.in_err-write_entries.ensures in
    rw (fault.1, fault.2) (record {
      holds = λ clean entries stands.
          let was = early (state g.S.Store mid.conn) (state g.S.Store c.write_entries.new.book.conn) wrote.reads.crash clean in
          entries_end (extent_of stands.stand.place entries) (entry_rows 1 entries) _ _ _
          (rw (asked.measures.of_book was entries stands) at c.in_ok-write_head.ensures.bytes) c.in_err-write_entries.field-0.0
          (wrote.shows.holds clean entries (stands_still (state g.S.Store old.conn) (state g.S.Store mid.conn) entries (asked.measures.same was) stands)).0;
    })

pub returns-in_err-write_entries-clause-lines : goal.returns-in_err-write_entries-clause-lines
returns-in_err-write_entries-clause-lines g c =
    let fault = err_from_is_err_and c.from_residual-in_err-write_entries.result c.from_residual-in_err-write_entries.ensures.1 in
    let some = c.in_err-write_entries.ensures.lines in
    rw (fault.1, fault.2) (
      c.in_ok-extent.extent,
      some.0,
      entries_end c.in_ok-extent.extent some.0 _ _ _ c.in_ok-write_head.ensures.bytes c.in_err-write_entries.field-0.0 some.1.0,
    )

pub returns-in_err-write_entries-clause-reads : goal.returns-in_err-write_entries-clause-reads
returns-in_err-write_entries-clause-reads g c =
    let fault = err_from_is_err_and c.from_residual-in_err-write_entries.result c.from_residual-in_err-write_entries.ensures.1 in
    let old = c.args.book.now in
    let mid = c.extent.new.self in
    let asked = c.in_ok-extent.ensures in
    rw (fault.1, fault.2)
    (same_stop g.S.Store old c.write_entries.new.book c.in_err-write_entries.field-0.0
    (reads_then g.S.Store old mid c.write_entries.new.book (was_measured g.S.Store old mid _ asked.measures asked.condition)
    (Err c.in_err-write_entries.field-0.0) c.in_err-write_entries.ensures.reads))

pub returns-clause-shows : goal.returns-clause-shows
returns-clause-shows g c =
    let old = c.args.book.now in
    let mid = c.extent.new.self in
    let asked = c.in_ok-extent.ensures in
    let head = c.in_ok-write_head.ensures in
    let wrote = c.in_ok-write_entries.ensures in
    record {
      holds = λ clean entries stands.
          let was = early (state g.S.Store mid.conn) (state g.S.Store c.write_entries.new.book.conn) wrote.reads.crash clean in
          subst (λ (extent : Extent). ShowsBody extent (entry_rows 1 entries) (g.W.CountedWrite.contents c.args.writer.now) (g.W.CountedWrite.contents c.write_entries.new.writer)
          (Ok (record { entries = c.in_ok-extent.extent.entries; sha256 = c.finalize.result }))) (asked.measures.of_book was entries stands)
          (body_whole c.in_ok-extent.extent (entry_rows 1 entries) _ _ _ (Holds256 c.write_head.new.hasher) (Holds256 c.write_entries.new.heard) _
          head.bytes (head.heard [] c.new-hasher.ensures)
          (wrote.shows.holds clean entries (stands_still (state g.S.Store old.conn) (state g.S.Store mid.conn) entries (asked.measures.same was) stands))
          c.finalize.ensures);
    }

pub returns-clause-lines : goal.returns-clause-lines
returns-clause-lines g c =
    let some = c.in_ok-write_entries.ensures.lines in (
      c.in_ok-extent.extent,
      some.0,
      body_whole c.in_ok-extent.extent some.0 _ _ _ (Holds256 c.write_head.new.hasher) (Holds256 c.write_entries.new.heard) _
          c.in_ok-write_head.ensures.bytes (c.in_ok-write_head.ensures.heard [] c.new-hasher.ensures) some.1 c.finalize.ensures,
    )

pub returns-clause-rows : goal.returns-clause-rows
returns-clause-rows g c =
    let old = c.args.book.now in
    let mid = c.extent.new.self in
    let asked = c.in_ok-extent.ensures in
    let head = c.in_ok-write_head.ensures in
    let wrote = c.in_ok-write_entries.ensures in
    record {
      holds = λ clean tables has.
          let was = early (state g.S.Store mid.conn) (state g.S.Store c.write_entries.new.book.conn) wrote.reads.crash clean in
          rows_whole c.in_ok-extent.extent tables _ _ _ (Holds256 c.write_head.new.hasher) (Holds256 c.write_entries.new.heard) _
          (asked.measures.says was tables has) head.bytes (head.heard [] c.new-hasher.ensures)
          (wrote.rows.holds clean tables (has_still (state g.S.Store old.conn) (state g.S.Store mid.conn) tables (asked.measures.same was) has))
          c.finalize.ensures;
    }

pub returns-clause-reads : goal.returns-clause-reads
returns-clause-reads g c =
    let old = c.args.book.now in
    let mid = c.extent.new.self in
    let asked = c.in_ok-extent.ensures in
    let read = read_then g.S.Store old mid c.write_entries.new.book (was_measured g.S.Store old mid _ asked.measures asked.condition)
    (was_read g.S.Store mid c.write_entries.new.book _ c.in_ok-write_entries.ensures.reads) in
    reads_whole g.S.Store old c.write_entries.new.book _ read (λ spent. let is = asked.reopen.1 spent in cc)
