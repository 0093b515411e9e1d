-- The legs that the walk gives are taken, leg by leg.
use Rattle.std.specs.Prelude.{◌≡◌}
use Rattle.std.proofs.Common.{◌∙◌, ◌∷◌, ◌++◌, [], Err, ap, refl}
use Rattle.std.proofs.lemmas.Result.{err_from_is_err_and}
use Rattle.sqlite.specs.Held.{state}
use Rattle.lot_book_report.proofs.CauseLemmas.{of_row, of_walk}
use Rattle.lot_book_report.proofs.ReadLemmas.{IsReading, goes_if_some, is_failure, read_on, reads_cut, reads_from, reads_short, reads_whole, stops, usable}
use Rattle.lot_book_report.specs.declared.fault.ShowFault.TheVariants.{Row as AtRow}
use Rattle.lot_recall.specs.Place.{IsAnyNoted, shown_noted}
use Rattle.lot_recall.specs.Wanted.{AreWanted, IsBehindWanted}
use Rattle.lot_register_report.proofs.WriteLemmas.{rows_whole, some_cut, some_cut_at_end, some_no_head, some_not_begun, some_short, some_stopped, some_whole}
use Rattle.lot_register_report.proofs.WriteLemmas.{walk_begun, walk_cut, walk_cut_at_end, walk_grown, walk_no_head, walk_not_begun, walk_short, walk_stopped, walk_whole}
use Rattle.lot_report.proofs.OutputLemmas.{writer_of_line}
use Rattle.lot_report.specs.Report.{report_fault}
use Rattle.lot_report.specs.declared.fault.ReportFault.TheVariants.{Write}
use Rattle.lot_report.specs.declared.fault.RowFault.TheVariants.{Report}
use Rattle.lot_rows.proofs.StateLemmas.{early}
use Rattle.lot_store.specs.declared.fault.StoreFault.TheVariants.{Memory}
use Rattle.lot_store.specs.declared.walk.WalkFault.TheVariants.{Failed}
use Rattle.lot_register_report.proofs.write.write_register.Goals as goal

pub returns-in_err-found-clause-shows : goal.returns-in_err-found-clause-shows
returns-in_err-found-clause-shows g c =
    let fault = err_from_is_err_and c.from_residual.result c.from_residual.ensures.1 in
    let failure = is_failure g.S.Store shown_noted IsAnyNoted AreWanted IsBehindWanted c.args.walk.now.book.now c.args.walk.now c.next.new.self (reads_from g.S.Store c.args.walk.now.book.now c.args.walk.now c.requires.going refl) c.in_err-found.field-0.0 c.in_err-found.ensures.walks in
    rw (fault.1, fault.2, failure.1) (walk_not_begun g.S.Store c.args.walk.now c.args.register.now (g.W.CountedWrite.contents c.args.writer.now) c.next.new.self failure.0)

pub returns-in_err-found-clause-some : goal.returns-in_err-found-clause-some
returns-in_err-found-clause-some g c =
    let fault = err_from_is_err_and c.from_residual.result c.from_residual.ensures.1 in
    let failure = is_failure g.S.Store shown_noted IsAnyNoted AreWanted IsBehindWanted c.args.walk.now.book.now c.args.walk.now c.next.new.self (reads_from g.S.Store c.args.walk.now.book.now c.args.walk.now c.requires.going refl) c.in_err-found.field-0.0 c.in_err-found.ensures.walks in
    rw (fault.1, fault.2, failure.1) (some_not_begun g.S.Store c.args.walk.now c.args.register.now (g.W.CountedWrite.contents c.args.writer.now) c.next.new.self failure.0)

pub returns-in_err-found-clause-rows : goal.returns-in_err-found-clause-rows
returns-in_err-found-clause-rows g c =
    let fault = err_from_is_err_and c.from_residual.result c.from_residual.ensures.1 in
    rw fault.1 (λ terms fresh clean wanted tables has. tt)

pub returns-in_err-found-clause-reads : goal.returns-in_err-found-clause-reads
returns-in_err-found-clause-reads g c =
    let fault = err_from_is_err_and c.from_residual.result c.from_residual.ensures.1 in
    rw (fault.1, fault.2)
    (stops g.S.Store shown_noted IsAnyNoted AreWanted IsBehindWanted c.args.walk.now.book.now c.args.walk.now c.next.new.self (reads_from g.S.Store c.args.walk.now.book.now c.args.walk.now c.requires.going refl) c.in_err-found.field-0.0
    (λ clean entries stands. let (wanted, has) = c.requires.begun clean entries stands in (wanted, [], has)) c.in_err-found.ensures.walks)

pub returns-in_err-found-clause-cause : goal.returns-in_err-found-clause-cause
returns-in_err-found-clause-cause g c =
    of_walk c.from_residual.result c.in_err-found.field-0.0 (record { before = g.W.CountedWrite.calls c.args.writer.now; after = g.W.CountedWrite.calls c.args.writer.now }) c.from_residual.ensures.1 refl

pub returns-in_err-begin-clause-shows : goal.returns-in_err-begin-clause-shows
returns-in_err-begin-clause-shows g c =
    let fault = err_from_is_err_and c.from_residual-in_err-begin.result c.from_residual-in_err-begin.ensures.1 in
    rw (fault.1, fault.2) (walk_no_head g.S.Store c.args.walk.now c.args.register.now (g.W.CountedWrite.contents c.args.writer.now) c.next.new.self _ c.in_err-begin.field-0.0 c.in_err-begin.ensures.lines)

pub returns-in_err-begin-clause-some : goal.returns-in_err-begin-clause-some
returns-in_err-begin-clause-some g c =
    let fault = err_from_is_err_and c.from_residual-in_err-begin.result c.from_residual-in_err-begin.ensures.1 in
    rw (fault.1, fault.2) (some_no_head g.S.Store c.args.walk.now c.args.register.now (g.W.CountedWrite.contents c.args.writer.now) c.next.new.self _ c.in_err-begin.field-0.0 c.in_err-begin.ensures.lines)

pub returns-in_err-begin-clause-rows : goal.returns-in_err-begin-clause-rows
returns-in_err-begin-clause-rows g c =
    let fault = err_from_is_err_and c.from_residual-in_err-begin.result c.from_residual-in_err-begin.ensures.1 in
    rw fault.1 (λ terms fresh clean wanted tables has. tt)

pub returns-in_err-begin-clause-reads : goal.returns-in_err-begin-clause-reads
returns-in_err-begin-clause-reads g c =
    let fault = err_from_is_err_and c.from_residual-in_err-begin.result c.from_residual-in_err-begin.ensures.1 in
    let walks = c.in_ok-found.ensures.walks in
    rw (fault.1, fault.2)
    (reads_cut g.S.Store c.args.walk.now.book.now c.next.new.self.book.now (Report (report_fault c.in_err-begin.field-0.0)) (λ is. cc)
    (read_on g.S.Store shown_noted IsAnyNoted AreWanted IsBehindWanted c.args.walk.now.book.now c.args.walk.now c.next.new.self (reads_from g.S.Store c.args.walk.now.book.now c.args.walk.now c.requires.going refl) c.in_ok-found.found walks)
    (usable g.S.Store shown_noted IsAnyNoted AreWanted IsBehindWanted c.args.walk.now.book.now c.args.walk.now c.next.new.self (reads_from g.S.Store c.args.walk.now.book.now c.args.walk.now c.requires.going refl) c.in_ok-found.found walks))

pub returns-in_err-begin-clause-cause : goal.returns-in_err-begin-clause-cause
returns-in_err-begin-clause-cause g c =
    of_row c.from_residual-in_err-begin.result (Report (report_fault c.in_err-begin.field-0.0)) (record { before = g.W.CountedWrite.calls c.args.writer.now; after = g.W.CountedWrite.calls c.begin.new.writer }) c.from_residual-in_err-begin.ensures.1
    (λ is. c.in_err-begin.ensures.cause (ap Err (writer_of_line c.in_err-begin.field-0.0 (cc))))

pub legs-init : goal.legs-init
legs-init g c =
    let walks = c.in_ok-found.ensures.walks in
    record {
      same_book = c.in_ok-found.ensures.same_reference;
      read = read_on g.S.Store shown_noted IsAnyNoted AreWanted IsBehindWanted c.args.walk.now.book.now c.args.walk.now c.next.new.self (reads_from g.S.Store c.args.walk.now.book.now c.args.walk.now c.requires.going refl) c.in_ok-found.found walks;
      going = goes_if_some g.S.Store shown_noted IsAnyNoted AreWanted IsBehindWanted c.args.walk.now.book.now c.args.walk.now c.next.new.self (reads_from g.S.Store c.args.walk.now.book.now c.args.walk.now c.requires.going refl) c.in_ok-found.found walks;
      usable = usable g.S.Store shown_noted IsAnyNoted AreWanted IsBehindWanted c.args.walk.now.book.now c.args.walk.now c.next.new.self (reads_from g.S.Store c.args.walk.now.book.now c.args.walk.now c.requires.going refl) c.in_ok-found.found walks;
      none_failed = c.in_ok-begin.ensures.none_failed;
      wrote = walk_begun g.S.Store c.args.walk.now c.args.register.now (g.W.CountedWrite.contents c.args.writer.now) c.next.new.self c.in_ok-found.found _ walks c.in_ok-found.ensures.rows tt c.in_ok-begin.ensures.lines;
    }

pub returns-in_err-end-clause-shows : goal.returns-in_err-end-clause-shows
returns-in_err-end-clause-shows g c =
    let fault = err_from_is_err_and c.from_residual-in_err-end.result c.from_residual-in_err-end.ensures.1 in
    let wrote = rw c.in_default.is at c.legs.invariant.wrote in
    rw (fault.1, fault.2) (walk_cut_at_end g.S.Store c.args.walk.now c.args.register.now (g.W.CountedWrite.contents c.args.writer.now) c.legs.walk c.legs.register _ wrote _ c.in_err-end.field-0.0 c.in_err-end.ensures.lines)

pub returns-in_err-end-clause-some : goal.returns-in_err-end-clause-some
returns-in_err-end-clause-some g c =
    let fault = err_from_is_err_and c.from_residual-in_err-end.result c.from_residual-in_err-end.ensures.1 in
    let wrote = rw c.in_default.is at c.legs.invariant.wrote in
    rw (fault.1, fault.2) (some_cut_at_end g.S.Store c.args.walk.now c.args.register.now (g.W.CountedWrite.contents c.args.writer.now) c.legs.walk c.legs.register _ wrote _ c.in_err-end.field-0.0 c.in_err-end.ensures.lines)

pub returns-in_err-end-clause-rows : goal.returns-in_err-end-clause-rows
returns-in_err-end-clause-rows g c =
    let fault = err_from_is_err_and c.from_residual-in_err-end.result c.from_residual-in_err-end.ensures.1 in
    rw fault.1 (λ terms fresh clean wanted tables has. tt)

pub returns-in_err-end-clause-reads : goal.returns-in_err-end-clause-reads
returns-in_err-end-clause-reads g c =
    let fault = err_from_is_err_and c.from_residual-in_err-end.result c.from_residual-in_err-end.ensures.1 in
    rw (fault.1, fault.2)
    (reads_cut g.S.Store c.args.walk.now.book.now c.legs.walk.book.now (Report (report_fault c.in_err-end.field-0.0)) (λ is. cc) c.legs.invariant.read c.legs.invariant.usable)

pub returns-in_err-end-clause-cause : goal.returns-in_err-end-clause-cause
returns-in_err-end-clause-cause g c =
    of_row c.from_residual-in_err-end.result (Report (report_fault c.in_err-end.field-0.0)) (record { before = g.W.CountedWrite.calls c.args.writer.now; after = g.W.CountedWrite.calls c.end.new.writer }) c.from_residual-in_err-end.ensures.1
    (λ is. c.in_err-end.ensures.cause (ap Err (writer_of_line c.in_err-end.field-0.0 (cc))))

pub returns-in_default-clause-shows : goal.returns-in_default-clause-shows
returns-in_default-clause-shows g c =
    let wrote = rw c.in_default.is at c.legs.invariant.wrote in
    walk_whole g.S.Store c.args.walk.now c.args.register.now (g.W.CountedWrite.contents c.args.writer.now) c.legs.walk c.legs.register _ wrote _ tt c.in_ok-end.ensures.lines

pub returns-in_default-clause-some : goal.returns-in_default-clause-some
returns-in_default-clause-some g c =
    let wrote = rw c.in_default.is at c.legs.invariant.wrote in
    some_whole g.S.Store c.args.walk.now c.args.register.now (g.W.CountedWrite.contents c.args.writer.now) c.legs.walk c.legs.register _ wrote _ tt c.in_ok-end.ensures.lines

pub returns-in_default-clause-rows : goal.returns-in_default-clause-rows
returns-in_default-clause-rows g c =
    let wrote = rw c.in_default.is at c.legs.invariant.wrote in
    rows_whole g.S.Store c.args.walk.now c.args.register.now (g.W.CountedWrite.contents c.args.writer.now) c.legs.walk c.legs.register _ wrote _ tt c.in_ok-end.ensures.lines

pub returns-in_default-clause-reads : goal.returns-in_default-clause-reads
returns-in_default-clause-reads g c =
    reads_whole g.S.Store c.args.walk.now.book.now c.legs.walk.book.now tt c.legs.invariant.read c.legs.invariant.usable

pub returns-in_default-clause-cause : goal.returns-in_default-clause-cause
returns-in_default-clause-cause g c =
    c.in_ok-end.ensures.none_failed ∙ c.legs.invariant.none_failed

pub returns-in-Err-clause-shows : goal.returns-in-Err-clause-shows
returns-in-Err-clause-shows g c =
    let wrote = rw c.in-Some.is at c.legs.invariant.wrote in
    walk_cut g.S.Store c.args.walk.now c.args.register.now (g.W.CountedWrite.contents c.args.writer.now) c.legs.walk c.legs.register _ c.in-Some.leg wrote c.row.new.self _ c.in-Err.fault (rw c.in-Err.is at c.row.ensures.takes)

pub returns-in-Err-clause-some : goal.returns-in-Err-clause-some
returns-in-Err-clause-some g c =
    let wrote = rw c.in-Some.is at c.legs.invariant.wrote in
    some_cut g.S.Store c.args.walk.now c.args.register.now (g.W.CountedWrite.contents c.args.writer.now) c.legs.walk c.legs.register _ c.in-Some.leg wrote c.row.new.self _ c.in-Err.fault (rw c.in-Err.is at c.row.ensures.takes)

pub returns-in-Err-clause-reads : goal.returns-in-Err-clause-reads
returns-in-Err-clause-reads g c =
    reads_cut g.S.Store c.args.walk.now.book.now c.legs.walk.book.now (Report c.in-Err.fault) (λ is. cc) c.legs.invariant.read c.legs.invariant.usable

pub returns-in-Err-clause-cause : goal.returns-in-Err-clause-cause
returns-in-Err-clause-cause g c =
    of_row (Err (AtRow (Report c.in-Err.fault))) (Report c.in-Err.fault) (record { before = g.W.CountedWrite.calls c.args.writer.now; after = g.W.CountedWrite.calls c.row.new.writer }) refl
    (λ is. let writer : c.in-Err.fault ≡ Write = cc in c.row.ensures.cause (c.in-Err.is ∙ ap Err writer))

pub returns-in_err-found-2-clause-shows : goal.returns-in_err-found-2-clause-shows
returns-in_err-found-2-clause-shows g c =
    let fault = err_from_is_err_and c.from_residual-in_err-found-2.result c.from_residual-in_err-found-2.ensures.1 in
    let wrote = rw c.in-Some.is at c.legs.invariant.wrote in
    let reading : IsReading g.S.Store c.args.walk.now.book.now c.legs.walk = record { going = rw c.in-Some.is at c.legs.invariant.going; read = c.legs.invariant.read } in
    let failure = is_failure g.S.Store shown_noted IsAnyNoted AreWanted IsBehindWanted c.args.walk.now.book.now c.legs.walk c.next-in-legs.new.self reading c.in_err-found-2.field-0.0 c.in_err-found-2.ensures.walks in
    rw (fault.1, fault.2, failure.1)
    (walk_stopped g.S.Store c.args.walk.now c.args.register.now (g.W.CountedWrite.contents c.args.writer.now) c.legs.walk c.legs.register _ c.in-Some.leg wrote c.row.new.self _ _ (rw c.in-Ok.is at c.row.ensures.takes) c.next-in-legs.new.self c.in_err-found-2.field-0.0
    c.in_err-found-2.ensures.walks failure.0)

pub returns-in_err-found-2-clause-some : goal.returns-in_err-found-2-clause-some
returns-in_err-found-2-clause-some g c =
    let fault = err_from_is_err_and c.from_residual-in_err-found-2.result c.from_residual-in_err-found-2.ensures.1 in
    let wrote = rw c.in-Some.is at c.legs.invariant.wrote in
    let reading : IsReading g.S.Store c.args.walk.now.book.now c.legs.walk = record { going = rw c.in-Some.is at c.legs.invariant.going; read = c.legs.invariant.read } in
    let failure = is_failure g.S.Store shown_noted IsAnyNoted AreWanted IsBehindWanted c.args.walk.now.book.now c.legs.walk c.next-in-legs.new.self reading c.in_err-found-2.field-0.0 c.in_err-found-2.ensures.walks in
    rw (fault.1, fault.2, failure.1) (some_stopped g.S.Store c.args.walk.now c.args.register.now (g.W.CountedWrite.contents c.args.writer.now) c.legs.walk c.legs.register _ c.in-Some.leg wrote c.row.new.self _ _ (rw c.in-Ok.is at c.row.ensures.takes) failure.0)

pub returns-in_err-found-2-clause-rows : goal.returns-in_err-found-2-clause-rows
returns-in_err-found-2-clause-rows g c =
    let fault = err_from_is_err_and c.from_residual-in_err-found-2.result c.from_residual-in_err-found-2.ensures.1 in
    rw fault.1 (λ terms fresh clean wanted tables has. tt)

pub returns-in_err-found-2-clause-reads : goal.returns-in_err-found-2-clause-reads
returns-in_err-found-2-clause-reads g c =
    let fault = err_from_is_err_and c.from_residual-in_err-found-2.result c.from_residual-in_err-found-2.ensures.1 in
    let wrote = rw c.in-Some.is at c.legs.invariant.wrote in
    let reading : IsReading g.S.Store c.args.walk.now.book.now c.legs.walk = record { going = rw c.in-Some.is at c.legs.invariant.going; read = c.legs.invariant.read } in
    rw (fault.1, fault.2)
    (stops g.S.Store shown_noted IsAnyNoted AreWanted IsBehindWanted c.args.walk.now.book.now c.legs.walk c.next-in-legs.new.self reading c.in_err-found-2.field-0.0
    (λ clean entries stands.
    let was = early (state g.S.Store c.args.walk.now.book.now.conn) (state g.S.Store c.legs.walk.book.now.conn) c.legs.invariant.read.crash clean in
    let (wanted, has) = c.requires.begun was entries stands in (wanted, wrote.legs ++ c.in-Some.leg ∷ [], wrote.of_book clean wanted entries has))
    c.in_err-found-2.ensures.walks)

pub returns-in_err-found-2-clause-cause : goal.returns-in_err-found-2-clause-cause
returns-in_err-found-2-clause-cause g c =
    let none = rw c.in-Ok.is at c.row.ensures.none_failed in
    of_walk c.from_residual-in_err-found-2.result c.in_err-found-2.field-0.0 (record { before = g.W.CountedWrite.calls c.args.writer.now; after = g.W.CountedWrite.calls c.row.new.writer }) c.from_residual-in_err-found-2.ensures.1
    (none ∙ c.legs.invariant.none_failed)

pub legs-preserved : goal.legs-preserved
legs-preserved g c =
    let wrote = rw c.in-Some.is at c.legs.invariant.wrote in
    let reading : IsReading g.S.Store c.args.walk.now.book.now c.legs.walk = record { going = rw c.in-Some.is at c.legs.invariant.going; read = c.legs.invariant.read } in
    let walks = c.in_ok-found-2.ensures.walks in
    let none = rw c.in-Ok.is at c.row.ensures.none_failed in
    record {
      same_book = c.in_ok-found-2.ensures.same_reference ∙ c.legs.invariant.same_book;
      read = read_on g.S.Store shown_noted IsAnyNoted AreWanted IsBehindWanted c.args.walk.now.book.now c.legs.walk c.next-in-legs.new.self reading c.in_ok-found-2.found walks;
      going = goes_if_some g.S.Store shown_noted IsAnyNoted AreWanted IsBehindWanted c.args.walk.now.book.now c.legs.walk c.next-in-legs.new.self reading c.in_ok-found-2.found walks;
      usable = c.legs.invariant.usable;
      none_failed = none ∙ c.legs.invariant.none_failed;
      wrote = walk_grown g.S.Store c.args.walk.now c.args.register.now (g.W.CountedWrite.contents c.args.writer.now) c.legs.walk c.legs.register _ c.in-Some.leg wrote c.row.new.self _ _ (rw c.in-Ok.is at c.row.ensures.takes) c.next-in-legs.new.self c.in_ok-found-2.found walks
          c.in_ok-found-2.ensures.rows;
    }

pub returns-clause-shows : goal.returns-clause-shows
returns-clause-shows g c =
    rw c.from.ensures (walk_short g.S.Store c.args.walk.now c.args.register.now (g.W.CountedWrite.contents c.args.writer.now) c.legs.walk c.legs.register _ c.legs.found c.legs.invariant.wrote)

pub returns-clause-some : goal.returns-clause-some
returns-clause-some g c =
    rw c.from.ensures (some_short g.S.Store c.args.walk.now c.args.register.now (g.W.CountedWrite.contents c.args.writer.now) c.legs.walk c.legs.register _ c.legs.found c.legs.invariant.wrote)

pub returns-clause-reads : goal.returns-clause-reads
returns-clause-reads g c =
    rw c.from.ensures (reads_short g.S.Store c.args.walk.now.book.now c.legs.walk.book.now c.legs.invariant.read c.legs.invariant.usable)

pub returns-clause-cause : goal.returns-clause-cause
returns-clause-cause g c =
    of_walk (Err c.from.result) (Failed Memory) (record { before = g.W.CountedWrite.calls c.args.writer.now; after = g.W.CountedWrite.calls c.legs.writer }) c.from.ensures c.legs.invariant.none_failed
