-- The records of the rows that a walk gives, row by row.
use Rattle.std.proofs.Common.{◌∙◌, ◌∷◌, ◌++◌, [], Err, ap, map, refl, subst}
use Rattle.std.proofs.lemmas.List.{append-nil}
use Rattle.std.proofs.lemmas.Result.{err_from_is_err_and}
use Rattle.std.specs.Io.KnownBytes.{Appends}
use Rattle.lot_report.specs.Report.{report_fault}
use Rattle.lot_report.specs.Written.{WritesLine}
use Rattle.lot_report.specs.declared.fault.RowFault.TheVariants.{Report}
use Rattle.lot_report.proofs.OutputLemmas.{writer_of_line}
use Rattle.lot_book_report.proofs.CauseLemmas.{of_row, of_walk}
use Rattle.lot_book_report.proofs.CsvLemmas.{begun, cut, grown, no_header, not_begun, rows_whole, short, some_cut, some_no_header, some_not_begun, some_short, some_stopped, some_whole, stopped, whole}
use Rattle.lot_book_report.proofs.ReadLemmas.{IsReading, goes_if_some, is_failure, read_on, reads_cut, reads_from, reads_short, reads_whole, stops, usable}
use Rattle.lot_store.specs.declared.fault.StoreFault.TheVariants.{Memory}
use Rattle.lot_store.specs.declared.walk.WalkFault.TheVariants.{Failed}
use Rattle.lot_book_report.proofs.csv.write_csv.Goals as goal

pub returns-in_err-found-clause-shows : goal.returns-in_err-found-clause-shows
returns-in_err-found-clause-shows g c =
    let fault = err_from_is_err_and c.from_residual.result c.from_residual.ensures.1 in
    let failure = is_failure g.S.Store g.P.Place.shown g.P.Place.IsGood g.P.Place.AreAll g.P.Place.IsBehind c.args.walk.now.book.now c.args.walk.now c.next.new.self (reads_from g.S.Store c.args.walk.now.book.now c.args.walk.now c.requires.going refl) c.in_err-found.field-0.0 c.in_err-found.ensures.walks in
    rw (fault.1, fault.2, failure.1) (not_begun g.S.Store g.P.Place.shown g.P.Place.IsGood g.P.Place.AreAll g.P.Place.IsBehind g.P.Place.AreAllRows g.P.Place.IsBehindRows c.args.header.now (g.R.Records.records c.args.records.now) c.args.walk.now (g.W.CountedWrite.contents c.args.writer.now) c.next.new.self failure.0)

pub returns-in_err-found-clause-lines : goal.returns-in_err-found-clause-lines
returns-in_err-found-clause-lines g c =
    let fault = err_from_is_err_and c.from_residual.result c.from_residual.ensures.1 in
    let failure = is_failure g.S.Store g.P.Place.shown g.P.Place.IsGood g.P.Place.AreAll g.P.Place.IsBehind c.args.walk.now.book.now c.args.walk.now c.next.new.self (reads_from g.S.Store c.args.walk.now.book.now c.args.walk.now c.requires.going refl) c.in_err-found.field-0.0 c.in_err-found.ensures.walks in
    rw (fault.1, fault.2, failure.1) (some_not_begun g.S.Store g.P.Place.shown g.P.Place.IsGood g.P.Place.AreAll g.P.Place.IsBehind g.P.Place.AreAllRows g.P.Place.IsBehindRows c.args.header.now (g.R.Records.records c.args.records.now) c.args.walk.now (g.W.CountedWrite.contents c.args.writer.now) c.next.new.self failure.0)

pub returns-in_err-found-clause-rows : goal.returns-in_err-found-clause-rows
returns-in_err-found-clause-rows g c =
    let fault = err_from_is_err_and c.from_residual.result c.from_residual.ensures.1 in rw fault.1 (λ told is clean asked tables has. tt)

pub returns-in_err-found-clause-reads : goal.returns-in_err-found-clause-reads
returns-in_err-found-clause-reads g c =
    let fault = err_from_is_err_and c.from_residual.result c.from_residual.ensures.1 in
    rw (fault.1, fault.2)
    (stops g.S.Store g.P.Place.shown g.P.Place.IsGood g.P.Place.AreAll g.P.Place.IsBehind c.args.walk.now.book.now c.args.walk.now c.next.new.self (reads_from g.S.Store c.args.walk.now.book.now c.args.walk.now c.requires.going refl) c.in_err-found.field-0.0
    (λ clean entries stands. let (asked, has) = c.requires.begun entries stands in (asked, [], has)) c.in_err-found.ensures.walks)

pub returns-in_err-found-clause-cause : goal.returns-in_err-found-clause-cause
returns-in_err-found-clause-cause g c =
    of_walk c.from_residual.result c.in_err-found.field-0.0 (record { before = g.W.CountedWrite.calls c.args.writer.now; after = g.W.CountedWrite.calls c.args.writer.now }) c.from_residual.ensures.1 refl

pub returns-in_err-print_texts-clause-shows : goal.returns-in_err-print_texts-clause-shows
returns-in_err-print_texts-clause-shows g c =
    let fault = err_from_is_err_and c.from_residual-in_err-print_texts.result c.from_residual-in_err-print_texts.ensures.1 in
    let text = subst (WritesLine (g.W.CountedWrite.contents c.args.writer.now) (g.W.CountedWrite.contents c.print_texts.new.writer) (Err c.in_err-print_texts.field-0.0))
    (append-nil c.args.header.now) c.in_err-print_texts.ensures.bytes in
    rw (fault.1, fault.2) (no_header g.S.Store g.P.Place.shown g.P.Place.IsGood g.P.Place.AreAll g.P.Place.IsBehind g.P.Place.AreAllRows g.P.Place.IsBehindRows c.args.header.now (g.R.Records.records c.args.records.now) c.args.walk.now (g.W.CountedWrite.contents c.args.writer.now) c.next.new.self _ c.in_err-print_texts.field-0.0 c.in_err-print_texts.ensures.fault text)

pub returns-in_err-print_texts-clause-lines : goal.returns-in_err-print_texts-clause-lines
returns-in_err-print_texts-clause-lines g c =
    let fault = err_from_is_err_and c.from_residual-in_err-print_texts.result c.from_residual-in_err-print_texts.ensures.1 in
    let text = subst (WritesLine (g.W.CountedWrite.contents c.args.writer.now) (g.W.CountedWrite.contents c.print_texts.new.writer) (Err c.in_err-print_texts.field-0.0))
    (append-nil c.args.header.now) c.in_err-print_texts.ensures.bytes in
    rw (fault.1, fault.2) (some_no_header g.S.Store g.P.Place.shown g.P.Place.IsGood g.P.Place.AreAll g.P.Place.IsBehind g.P.Place.AreAllRows g.P.Place.IsBehindRows c.args.header.now (g.R.Records.records c.args.records.now) c.args.walk.now (g.W.CountedWrite.contents c.args.writer.now) c.next.new.self _ c.in_err-print_texts.field-0.0 c.in_err-print_texts.ensures.fault text)

pub returns-in_err-print_texts-clause-rows : goal.returns-in_err-print_texts-clause-rows
returns-in_err-print_texts-clause-rows g c =
    let fault = err_from_is_err_and c.from_residual-in_err-print_texts.result c.from_residual-in_err-print_texts.ensures.1 in rw fault.1 (λ told is clean asked tables has. tt)

pub returns-in_err-print_texts-clause-reads : goal.returns-in_err-print_texts-clause-reads
returns-in_err-print_texts-clause-reads g c =
    let fault = err_from_is_err_and c.from_residual-in_err-print_texts.result c.from_residual-in_err-print_texts.ensures.1 in
    let walks = c.in_ok-found.ensures.walks in
    rw (fault.1, fault.2)
    (reads_cut g.S.Store c.args.walk.now.book.now c.next.new.self.book.now (Report (report_fault c.in_err-print_texts.field-0.0)) (λ is. cc)
    (read_on g.S.Store g.P.Place.shown g.P.Place.IsGood g.P.Place.AreAll g.P.Place.IsBehind c.args.walk.now.book.now c.args.walk.now c.next.new.self (reads_from g.S.Store c.args.walk.now.book.now c.args.walk.now c.requires.going refl) c.in_ok-found.found walks)
    (usable g.S.Store g.P.Place.shown g.P.Place.IsGood g.P.Place.AreAll g.P.Place.IsBehind c.args.walk.now.book.now c.args.walk.now c.next.new.self (reads_from g.S.Store c.args.walk.now.book.now c.args.walk.now c.requires.going refl) c.in_ok-found.found walks))

pub returns-in_err-print_texts-clause-cause : goal.returns-in_err-print_texts-clause-cause
returns-in_err-print_texts-clause-cause g c =
    of_row c.from_residual-in_err-print_texts.result (Report (report_fault c.in_err-print_texts.field-0.0)) (record { before = g.W.CountedWrite.calls c.args.writer.now; after = g.W.CountedWrite.calls c.print_texts.new.writer }) c.from_residual-in_err-print_texts.ensures.1
    (λ is. c.in_err-print_texts.ensures.cause)

pub rows-init : goal.rows-init
rows-init g c =
    let walks = c.in_ok-found.ensures.walks in
    let reading = reads_from g.S.Store c.args.walk.now.book.now c.args.walk.now c.requires.going refl in
    record {
      same_book = c.in_ok-found.ensures.same_reference;
      read = read_on g.S.Store g.P.Place.shown g.P.Place.IsGood g.P.Place.AreAll g.P.Place.IsBehind c.args.walk.now.book.now c.args.walk.now c.next.new.self reading c.in_ok-found.found walks;
      going = goes_if_some g.S.Store g.P.Place.shown g.P.Place.IsGood g.P.Place.AreAll g.P.Place.IsBehind c.args.walk.now.book.now c.args.walk.now c.next.new.self reading c.in_ok-found.found walks;
      usable = usable g.S.Store g.P.Place.shown g.P.Place.IsGood g.P.Place.AreAll g.P.Place.IsBehind c.args.walk.now.book.now c.args.walk.now c.next.new.self reading c.in_ok-found.found walks;
      none_failed = c.in_ok-print_texts.ensures.none_failed;
      wrote = begun g.S.Store g.P.Place.shown g.P.Place.IsGood g.P.Place.AreAll g.P.Place.IsBehind g.P.Place.AreAllRows g.P.Place.IsBehindRows c.args.header.now (g.R.Records.records c.args.records.now) c.args.walk.now (g.W.CountedWrite.contents c.args.writer.now) c.next.new.self c.in_ok-found.found _ walks c.in_ok-found.ensures.rows
          (subst (Appends (g.W.CountedWrite.contents c.args.writer.now) (g.W.CountedWrite.contents c.print_texts.new.writer)) (append-nil c.args.header.now) c.in_ok-print_texts.ensures.bytes);
    }

pub returns-in_default-clause-shows : goal.returns-in_default-clause-shows
returns-in_default-clause-shows g c =
    whole g.S.Store g.P.Place.shown g.P.Place.IsGood g.P.Place.AreAll g.P.Place.IsBehind g.P.Place.AreAllRows g.P.Place.IsBehindRows c.args.header.now (g.R.Records.records c.args.records.now) c.args.walk.now (g.W.CountedWrite.contents c.args.writer.now) c.rows.walk _ (rw c.in_default.is at c.rows.invariant.wrote)

pub returns-in_default-clause-lines : goal.returns-in_default-clause-lines
returns-in_default-clause-lines g c =
    some_whole g.S.Store g.P.Place.shown g.P.Place.IsGood g.P.Place.AreAll g.P.Place.IsBehind g.P.Place.AreAllRows g.P.Place.IsBehindRows c.args.header.now (g.R.Records.records c.args.records.now) c.args.walk.now (g.W.CountedWrite.contents c.args.writer.now) c.rows.walk _ (rw c.in_default.is at c.rows.invariant.wrote)

pub returns-in_default-clause-rows : goal.returns-in_default-clause-rows
returns-in_default-clause-rows g c =
    rows_whole g.S.Store g.P.Place.shown g.P.Place.IsGood g.P.Place.AreAll g.P.Place.IsBehind g.P.Place.AreAllRows g.P.Place.IsBehindRows c.args.header.now (g.R.Records.records c.args.records.now) c.args.walk.now (g.W.CountedWrite.contents c.args.writer.now) c.rows.walk _ (rw c.in_default.is at c.rows.invariant.wrote)

pub returns-in_default-clause-reads : goal.returns-in_default-clause-reads
returns-in_default-clause-reads g c =
    reads_whole g.S.Store c.args.walk.now.book.now c.rows.walk.book.now tt c.rows.invariant.read c.rows.invariant.usable

pub returns-in_default-clause-cause : goal.returns-in_default-clause-cause
returns-in_default-clause-cause g c =
    c.rows.invariant.none_failed

pub returns-in_err-write-clause-shows : goal.returns-in_err-write-clause-shows
returns-in_err-write-clause-shows g c =
    let fault = err_from_is_err_and c.from_residual-in_err-write.result c.from_residual-in_err-write.ensures.1 in
    let wrote = rw c.in-Some.is at c.rows.invariant.wrote in
    rw (fault.1, fault.2) (cut g.S.Store g.P.Place.shown g.P.Place.IsGood g.P.Place.AreAll g.P.Place.IsBehind g.P.Place.AreAllRows g.P.Place.IsBehindRows c.args.header.now (g.R.Records.records c.args.records.now) c.args.walk.now (g.W.CountedWrite.contents c.args.writer.now) c.rows.walk c.in-Some.row _ _ wrote c.in_err-write.field-0.0 c.in_err-write.ensures.records)

pub returns-in_err-write-clause-lines : goal.returns-in_err-write-clause-lines
returns-in_err-write-clause-lines g c =
    let fault = err_from_is_err_and c.from_residual-in_err-write.result c.from_residual-in_err-write.ensures.1 in
    let wrote = rw c.in-Some.is at c.rows.invariant.wrote in
    rw (fault.1, fault.2) (some_cut g.S.Store g.P.Place.shown g.P.Place.IsGood g.P.Place.AreAll g.P.Place.IsBehind g.P.Place.AreAllRows g.P.Place.IsBehindRows c.args.header.now (g.R.Records.records c.args.records.now) c.args.walk.now (g.W.CountedWrite.contents c.args.writer.now) c.rows.walk c.in-Some.row _ _ wrote c.in_err-write.field-0.0 c.in_err-write.ensures.records)

pub returns-in_err-write-clause-rows : goal.returns-in_err-write-clause-rows
returns-in_err-write-clause-rows g c =
    let fault = err_from_is_err_and c.from_residual-in_err-write.result c.from_residual-in_err-write.ensures.1 in rw fault.1 (λ told is clean asked tables has. tt)

pub returns-in_err-write-clause-reads : goal.returns-in_err-write-clause-reads
returns-in_err-write-clause-reads g c =
    let fault = err_from_is_err_and c.from_residual-in_err-write.result c.from_residual-in_err-write.ensures.1 in
    rw (fault.1, fault.2)
    (reads_cut g.S.Store c.args.walk.now.book.now c.rows.walk.book.now (Report (report_fault c.in_err-write.field-0.0)) (λ is. cc) c.rows.invariant.read c.rows.invariant.usable)

pub returns-in_err-write-clause-cause : goal.returns-in_err-write-clause-cause
returns-in_err-write-clause-cause g c =
    of_row c.from_residual-in_err-write.result (Report (report_fault c.in_err-write.field-0.0)) (record { before = g.W.CountedWrite.calls c.args.writer.now; after = g.W.CountedWrite.calls c.write.new.writer }) c.from_residual-in_err-write.ensures.1
    (λ is. c.in_err-write.ensures.cause (ap Err (writer_of_line c.in_err-write.field-0.0 (cc))))

pub returns-in_err-found-2-clause-shows : goal.returns-in_err-found-2-clause-shows
returns-in_err-found-2-clause-shows g c =
    let fault = err_from_is_err_and c.from_residual-in_err-found-2.result c.from_residual-in_err-found-2.ensures.1 in
    let wrote = rw c.in-Some.is at c.rows.invariant.wrote in
    let reading : IsReading g.S.Store c.args.walk.now.book.now c.rows.walk = record { going = rw c.in-Some.is at c.rows.invariant.going; read = c.rows.invariant.read } in
    let failure = is_failure g.S.Store g.P.Place.shown g.P.Place.IsGood g.P.Place.AreAll g.P.Place.IsBehind c.args.walk.now.book.now c.rows.walk c.next-in-rows.new.self reading c.in_err-found-2.field-0.0 c.in_err-found-2.ensures.walks in
    rw (fault.1, fault.2, failure.1)
    (stopped g.S.Store g.P.Place.shown g.P.Place.IsGood g.P.Place.AreAll g.P.Place.IsBehind g.P.Place.AreAllRows g.P.Place.IsBehindRows c.args.header.now (g.R.Records.records c.args.records.now) c.args.walk.now (g.W.CountedWrite.contents c.args.writer.now) c.rows.walk c.in-Some.row _ _ wrote c.in_ok-write.ensures.records c.next-in-rows.new.self c.in_err-found-2.field-0.0 c.in_err-found-2.ensures.walks failure.0)

pub returns-in_err-found-2-clause-lines : goal.returns-in_err-found-2-clause-lines
returns-in_err-found-2-clause-lines g c =
    let fault = err_from_is_err_and c.from_residual-in_err-found-2.result c.from_residual-in_err-found-2.ensures.1 in
    let wrote = rw c.in-Some.is at c.rows.invariant.wrote in
    let reading : IsReading g.S.Store c.args.walk.now.book.now c.rows.walk = record { going = rw c.in-Some.is at c.rows.invariant.going; read = c.rows.invariant.read } in
    let failure = is_failure g.S.Store g.P.Place.shown g.P.Place.IsGood g.P.Place.AreAll g.P.Place.IsBehind c.args.walk.now.book.now c.rows.walk c.next-in-rows.new.self reading c.in_err-found-2.field-0.0 c.in_err-found-2.ensures.walks in
    rw (fault.1, fault.2, failure.1) (some_stopped g.S.Store g.P.Place.shown g.P.Place.IsGood g.P.Place.AreAll g.P.Place.IsBehind g.P.Place.AreAllRows g.P.Place.IsBehindRows c.args.header.now (g.R.Records.records c.args.records.now) c.args.walk.now (g.W.CountedWrite.contents c.args.writer.now) c.rows.walk c.in-Some.row _ _ wrote c.in_ok-write.ensures.records failure.0)

pub returns-in_err-found-2-clause-rows : goal.returns-in_err-found-2-clause-rows
returns-in_err-found-2-clause-rows g c =
    let fault = err_from_is_err_and c.from_residual-in_err-found-2.result c.from_residual-in_err-found-2.ensures.1 in rw fault.1 (λ told is clean asked tables has. tt)

pub returns-in_err-found-2-clause-reads : goal.returns-in_err-found-2-clause-reads
returns-in_err-found-2-clause-reads g c =
    let fault = err_from_is_err_and c.from_residual-in_err-found-2.result c.from_residual-in_err-found-2.ensures.1 in
    let wrote = rw c.in-Some.is at c.rows.invariant.wrote in
    let reading : IsReading g.S.Store c.args.walk.now.book.now c.rows.walk = record { going = rw c.in-Some.is at c.rows.invariant.going; read = c.rows.invariant.read } in
    let failure = is_failure g.S.Store g.P.Place.shown g.P.Place.IsGood g.P.Place.AreAll g.P.Place.IsBehind c.args.walk.now.book.now c.rows.walk c.next-in-rows.new.self reading c.in_err-found-2.field-0.0 c.in_err-found-2.ensures.walks in
    rw (fault.1, fault.2)
    (stops g.S.Store g.P.Place.shown g.P.Place.IsGood g.P.Place.AreAll g.P.Place.IsBehind c.args.walk.now.book.now c.rows.walk c.next-in-rows.new.self reading c.in_err-found-2.field-0.0
    (λ clean entries stands. let (asked, has) = c.requires.begun entries stands in (asked, map g.P.Place.shown wrote.values ++ g.P.Place.shown c.in-Some.row ∷ [], wrote.of_book clean asked entries has))
    c.in_err-found-2.ensures.walks)

pub returns-in_err-found-2-clause-cause : goal.returns-in_err-found-2-clause-cause
returns-in_err-found-2-clause-cause g c =
    of_walk c.from_residual-in_err-found-2.result c.in_err-found-2.field-0.0 (record { before = g.W.CountedWrite.calls c.args.writer.now; after = g.W.CountedWrite.calls c.write.new.writer }) c.from_residual-in_err-found-2.ensures.1 (c.in_ok-write.ensures.none_failed ∙ c.rows.invariant.none_failed)

pub rows-preserved : goal.rows-preserved
rows-preserved g c =
    let wrote = rw c.in-Some.is at c.rows.invariant.wrote in
    let reading : IsReading g.S.Store c.args.walk.now.book.now c.rows.walk = record { going = rw c.in-Some.is at c.rows.invariant.going; read = c.rows.invariant.read } in
    let found = c.in_ok-found-2.found in
    let walks = c.in_ok-found-2.ensures.walks in
    record {
      same_book = c.in_ok-found-2.ensures.same_reference ∙ c.rows.invariant.same_book;
      read = read_on g.S.Store g.P.Place.shown g.P.Place.IsGood g.P.Place.AreAll g.P.Place.IsBehind c.args.walk.now.book.now c.rows.walk c.next-in-rows.new.self reading found walks;
      going = goes_if_some g.S.Store g.P.Place.shown g.P.Place.IsGood g.P.Place.AreAll g.P.Place.IsBehind c.args.walk.now.book.now c.rows.walk c.next-in-rows.new.self reading found walks;
      usable = c.rows.invariant.usable;
      none_failed = c.in_ok-write.ensures.none_failed ∙ c.rows.invariant.none_failed;
      wrote = grown g.S.Store g.P.Place.shown g.P.Place.IsGood g.P.Place.AreAll g.P.Place.IsBehind g.P.Place.AreAllRows g.P.Place.IsBehindRows c.args.header.now (g.R.Records.records c.args.records.now) c.args.walk.now (g.W.CountedWrite.contents c.args.writer.now) c.rows.walk c.in-Some.row _ _ wrote c.in_ok-write.ensures.records c.next-in-rows.new.self found walks c.in_ok-found-2.ensures.rows;
    }

pub returns-clause-shows : goal.returns-clause-shows
returns-clause-shows g c =
    rw c.from.ensures (short g.S.Store g.P.Place.shown g.P.Place.IsGood g.P.Place.AreAll g.P.Place.IsBehind g.P.Place.AreAllRows g.P.Place.IsBehindRows c.args.header.now (g.R.Records.records c.args.records.now) c.args.walk.now (g.W.CountedWrite.contents c.args.writer.now) c.rows.walk c.rows.found _ c.rows.invariant.wrote Memory)

pub returns-clause-lines : goal.returns-clause-lines
returns-clause-lines g c =
    rw c.from.ensures (some_short g.S.Store g.P.Place.shown g.P.Place.IsGood g.P.Place.AreAll g.P.Place.IsBehind g.P.Place.AreAllRows g.P.Place.IsBehindRows c.args.header.now (g.R.Records.records c.args.records.now) c.args.walk.now (g.W.CountedWrite.contents c.args.writer.now) c.rows.walk c.rows.found _ c.rows.invariant.wrote Memory)

pub returns-clause-reads : goal.returns-clause-reads
returns-clause-reads g c =
    rw c.from.ensures (reads_short g.S.Store c.args.walk.now.book.now c.rows.walk.book.now c.rows.invariant.read c.rows.invariant.usable)

pub returns-clause-cause : goal.returns-clause-cause
returns-clause-cause g c =
    of_walk (Err c.from.result) (Failed Memory) (record { before = g.W.CountedWrite.calls c.args.writer.now; after = g.W.CountedWrite.calls c.rows.writer }) c.from.ensures c.rows.invariant.none_failed
