-- All rows of a walk are written, row by row.
use Rattle.std.proofs.Common.{◌∙◌, Err, List, None, Some, arith, map, refl}
use Rattle.std.specs.Prelude.{true}
use Rattle.std.proofs.KnownBytes.{Appends-nil}
use Rattle.std.proofs.lemmas.Result.{err_from_is_err_and}
use Rattle.lot_book_report.proofs.CauseLemmas.{of_row, of_walk}
use Rattle.lot_book_report.proofs.ReadLemmas.{reads_cut, reads_from, reads_short, reads_whole, stops, usable, walked_out, walks_on}
use Rattle.lot_rows.proofs.StateLemmas.{early}
use Rattle.sqlite.specs.Held.{state}
use Rattle.lot_report.specs.Report.{report_fault}
use Rattle.lot_book_report.specs.declared.fault.ShowFault.TheVariants.{Row as AtRow}
use Rattle.lot_report.specs.declared.fault.RowFault.TheVariants.{Report}
use Rattle.lot_store.specs.declared.fault.StoreFault.TheVariants.{Memory}
use Rattle.lot_store.specs.declared.walk.WalkFault.TheVariants.{Failed}
use Rattle.lot_sums.proofs.GatherLemmas.{took_more, took_none, whole, whole_rows}
use Rattle.lot_page_report.specs.List.{ListsRows}
use Rattle.lot_page_report.proofs.ListLemmas.{HasWritten, begins_at_end, begins_at_row, begins_here, cut_at_end, cut_at_row, cut_here, holds_at_row, holds_of_all, holds_then, written_more, written_whole}
use Rattle.lot_page_report.proofs.ReadLemmas.{print_in_range, walk_in_range}
use Rattle.lot_page_report.proofs.list.write_list.Goals as goal

pub rows-init : goal.rows-init
rows-init g c = record {
  same_book = refl;
  reading = reads_from g.S.Store c.args.walk.now.book.now c.args.walk.now c.requires.going refl;
  usable = λ below. absurd (omega arith);
  none_failed = refl;
  took = took_none g.S.Store g.P.Place.shown g.P.Place.IsGood g.P.Place.AreAll g.P.Place.IsBehind g.P.Place.AreAllRows g.P.Place.IsBehindRows g.L.Listing.told (λ terms rows row. true) (HasWritten g.L.Listing.piece g.L.Listing.end_of g.L.Listing.HasListed (g.W.CountedWrite.contents c.args.writer.now)) c.args.walk.now (c.args.list.now, g.W.CountedWrite.contents c.args.writer.now);
}

pub returns-in_err-row-clause-lists : goal.returns-in_err-row-clause-lists
returns-in_err-row-clause-lists g c =
    let fault = err_from_is_err_and c.from_residual.result c.from_residual.ensures.1 in
    let loop = c.rows.invariant in
    rw fault.1 (λ terms fresh tell same clean asked entries has.
    let was = early (state g.S.Store c.rows.walk.book.now.conn) (state g.S.Store c.next.new.self.book.now.conn) c.in_err-row.ensures.walks.crash clean in
    let prefix = (loop.took.of_book was asked entries has).prefix in
    let had = loop.took.taken terms (fresh, Appends-nil (g.W.CountedWrite.contents c.args.writer.now)) in
    holds_then g.P.Place.shown g.L.Listing.told tell same (g.P.Place.AreAll asked entries) (λ (rows : List g.L.Listing.Told). ListsRows (g.L.Listing.piece terms) (g.L.Listing.end_of terms) rows (g.W.CountedWrite.contents c.args.writer.now) (g.W.CountedWrite.contents c.rows.writer) (Err fault.0)) loop.took.values prefix.0 prefix.1
    (begins_here g.L.Listing.piece g.L.Listing.end_of g.L.Listing.HasListed (g.W.CountedWrite.contents c.args.writer.now) terms (map g.L.Listing.told loop.took.values) (c.rows.list, g.W.CountedWrite.contents c.rows.writer) had.1 (map tell prefix.0) fault.0))

pub returns-in_err-row-clause-rows : goal.returns-in_err-row-clause-rows
returns-in_err-row-clause-rows g c =
    let fault = err_from_is_err_and c.from_residual.result c.from_residual.ensures.1 in
    rw fault.1 (λ terms fresh tell same clean asked tables has. tt)

pub returns-in_err-row-clause-some : goal.returns-in_err-row-clause-some
returns-in_err-row-clause-some g c =
    let fault = err_from_is_err_and c.from_residual.result c.from_residual.ensures.1 in
    let loop = c.rows.invariant in
    rw fault.1 (λ terms fresh.
    let has = loop.took.taken terms (fresh, Appends-nil (g.W.CountedWrite.contents c.args.writer.now)) in
    cut_here g.L.Listing.piece g.L.Listing.end_of g.L.Listing.HasListed (g.W.CountedWrite.contents c.args.writer.now) terms _ (c.rows.list, g.W.CountedWrite.contents c.rows.writer) has.1 fault.0)

pub returns-in_err-row-clause-in_range : goal.returns-in_err-row-clause-in_range
returns-in_err-row-clause-in_range g c =
    let fault = err_from_is_err_and c.from_residual.result c.from_residual.ensures.1 in
    rw (fault.1, fault.2) (walk_in_range c.in_err-row.field-0.0)

pub returns-in_err-row-clause-reads : goal.returns-in_err-row-clause-reads
returns-in_err-row-clause-reads g c =
    let fault = err_from_is_err_and c.from_residual.result c.from_residual.ensures.1 in
    let loop = c.rows.invariant in
    rw (fault.1, fault.2)
    (stops g.S.Store g.P.Place.shown g.P.Place.IsGood g.P.Place.AreAll g.P.Place.IsBehind c.args.walk.now.book.now c.rows.walk c.next.new.self loop.reading c.in_err-row.field-0.0
    (λ clean entries stands. let (asked, has) = c.requires.begun entries stands in (asked, _, loop.took.of_book clean asked entries has))
    c.in_err-row.ensures.walks)

pub returns-in_err-row-clause-cause : goal.returns-in_err-row-clause-cause
returns-in_err-row-clause-cause g c =
    of_walk c.from_residual.result c.in_err-row.field-0.0 (record { before = g.W.CountedWrite.calls c.args.writer.now; after = g.W.CountedWrite.calls c.rows.writer }) c.from_residual.ensures.1
    c.rows.invariant.none_failed

pub returns-in_err-print_texts-clause-lists : goal.returns-in_err-print_texts-clause-lists
returns-in_err-print_texts-clause-lists g c =
    let fault = err_from_is_err_and c.from_residual-in_err-print_texts.result c.from_residual-in_err-print_texts.ensures.1 in
    let loop = c.rows.invariant in
    let walks = rw c.in_default.is at c.in_ok-row.ensures.walks in
    rw (fault.1, fault.2) (λ terms fresh tell same clean asked entries has.
    let was = early (state g.S.Store c.rows.walk.book.now.conn) (state g.S.Store c.next.new.self.book.now.conn) walks.crash clean in
    let had = loop.took.taken terms (fresh, Appends-nil (g.W.CountedWrite.contents c.args.writer.now)) in
    holds_of_all g.P.Place.shown g.L.Listing.told tell same (g.P.Place.AreAll asked entries) (λ (rows : List g.L.Listing.Told). ListsRows (g.L.Listing.piece terms) (g.L.Listing.end_of terms) rows (g.W.CountedWrite.contents c.args.writer.now) (g.W.CountedWrite.contents c.print_texts.new.writer) (Err (AtRow (Report (report_fault c.in_err-print_texts.field-0.0))))) loop.took.values
    (walks.gives clean asked entries (map g.P.Place.shown loop.took.values) (loop.took.of_book was asked entries has))
    (begins_at_end g.L.Listing.piece g.L.Listing.end_of g.L.Listing.HasListed (g.W.CountedWrite.contents c.args.writer.now) terms (map g.L.Listing.told loop.took.values) (c.rows.list, g.W.CountedWrite.contents c.rows.writer) had.1 (g.W.CountedWrite.contents c.print_texts.new.writer) c.end_text.result.now c.in_err-print_texts.field-0.0 (Report (report_fault c.in_err-print_texts.field-0.0)) (c.end_text.ensures terms (map g.L.Listing.told loop.took.values) had.1.0) c.in_err-print_texts.ensures.bytes))

pub returns-in_err-print_texts-clause-rows : goal.returns-in_err-print_texts-clause-rows
returns-in_err-print_texts-clause-rows g c =
    let fault = err_from_is_err_and c.from_residual-in_err-print_texts.result c.from_residual-in_err-print_texts.ensures.1 in
    rw fault.1 (λ terms fresh tell same clean asked tables has. tt)

pub returns-in_err-print_texts-clause-some : goal.returns-in_err-print_texts-clause-some
returns-in_err-print_texts-clause-some g c =
    let fault = err_from_is_err_and c.from_residual-in_err-print_texts.result c.from_residual-in_err-print_texts.ensures.1 in
    let loop = c.rows.invariant in
    rw (fault.1, fault.2) (λ terms fresh.
    let has = loop.took.taken terms (fresh, Appends-nil (g.W.CountedWrite.contents c.args.writer.now)) in
    cut_at_end g.L.Listing.piece g.L.Listing.end_of g.L.Listing.HasListed (g.W.CountedWrite.contents c.args.writer.now) terms _ (c.rows.list, g.W.CountedWrite.contents c.rows.writer) has.1 _ c.end_text.result.now c.in_err-print_texts.field-0.0 (Report (report_fault c.in_err-print_texts.field-0.0)) (c.end_text.ensures terms _ has.1.0) c.in_err-print_texts.ensures.bytes)

pub returns-in_err-print_texts-clause-in_range : goal.returns-in_err-print_texts-clause-in_range
returns-in_err-print_texts-clause-in_range g c =
    let fault = err_from_is_err_and c.from_residual-in_err-print_texts.result c.from_residual-in_err-print_texts.ensures.1 in
    rw (fault.1, fault.2) (print_in_range c.in_err-print_texts.field-0.0)

pub returns-in_err-print_texts-clause-reads : goal.returns-in_err-print_texts-clause-reads
returns-in_err-print_texts-clause-reads g c =
    let fault = err_from_is_err_and c.from_residual-in_err-print_texts.result c.from_residual-in_err-print_texts.ensures.1 in
    let loop = c.rows.invariant in
    let walks = rw c.in_default.is at c.in_ok-row.ensures.walks in
    rw (fault.1, fault.2)
    (reads_cut g.S.Store c.args.walk.now.book.now c.next.new.self.book.now (Report (report_fault c.in_err-print_texts.field-0.0)) (λ is. cc)
    (walked_out g.S.Store g.P.Place.shown g.P.Place.IsGood g.P.Place.AreAll g.P.Place.IsBehind c.args.walk.now.book.now c.rows.walk c.next.new.self loop.reading walks)
    (usable g.S.Store g.P.Place.shown g.P.Place.IsGood g.P.Place.AreAll g.P.Place.IsBehind c.args.walk.now.book.now c.rows.walk c.next.new.self loop.reading None walks))

pub returns-in_err-print_texts-clause-cause : goal.returns-in_err-print_texts-clause-cause
returns-in_err-print_texts-clause-cause g c =
    of_row c.from_residual-in_err-print_texts.result (Report (report_fault c.in_err-print_texts.field-0.0)) (record { before = g.W.CountedWrite.calls c.args.writer.now; after = g.W.CountedWrite.calls c.print_texts.new.writer }) c.from_residual-in_err-print_texts.ensures.1
    (λ is. c.in_err-print_texts.ensures.cause)

pub returns-in_default-clause-lists : goal.returns-in_default-clause-lists
returns-in_default-clause-lists g c =
    let loop = c.rows.invariant in
    let walks = rw c.in_default.is at c.in_ok-row.ensures.walks in
    λ terms fresh tell same clean asked entries has.
    let (all, are, (fit, had)) = whole g.S.Store g.P.Place.shown g.P.Place.IsGood g.P.Place.AreAll g.P.Place.IsBehind g.P.Place.AreAllRows g.P.Place.IsBehindRows g.L.Listing.told (λ terms rows row. true) (HasWritten g.L.Listing.piece g.L.Listing.end_of g.L.Listing.HasListed (g.W.CountedWrite.contents c.args.writer.now)) c.args.walk.now (c.args.list.now, g.W.CountedWrite.contents c.args.writer.now) c.rows.walk c.next.new.self (c.rows.list, g.W.CountedWrite.contents c.rows.writer) loop.took walks terms (fresh, Appends-nil (g.W.CountedWrite.contents c.args.writer.now)) tell same clean asked entries has in
    (all, are, written_whole g.L.Listing.piece g.L.Listing.end_of g.L.Listing.HasListed (g.W.CountedWrite.contents c.args.writer.now) terms (map tell all) (c.rows.list, g.W.CountedWrite.contents c.rows.writer) had _ c.end_text.result.now tt (c.end_text.ensures terms (map tell all) had.0) c.in_ok-print_texts.ensures.bytes)

pub returns-in_default-clause-rows : goal.returns-in_default-clause-rows
returns-in_default-clause-rows g c =
    let loop = c.rows.invariant in
    let walks = rw c.in_default.is at c.in_ok-row.ensures.walks in
    let rows = rw c.in_default.is at c.in_ok-row.ensures.rows in
    λ terms fresh tell same clean asked tables has.
    let (all, are, good, (fit, had)) = whole_rows g.S.Store g.P.Place.shown g.P.Place.IsGood g.P.Place.AreAll g.P.Place.IsBehind g.P.Place.AreAllRows g.P.Place.IsBehindRows g.L.Listing.told (λ terms rows row. true) (HasWritten g.L.Listing.piece g.L.Listing.end_of g.L.Listing.HasListed (g.W.CountedWrite.contents c.args.writer.now)) c.args.walk.now (c.args.list.now, g.W.CountedWrite.contents c.args.writer.now) c.rows.walk c.next.new.self (c.rows.list, g.W.CountedWrite.contents c.rows.writer) loop.took walks rows terms (fresh, Appends-nil (g.W.CountedWrite.contents c.args.writer.now)) tell same clean asked tables has in
    (all, are, good, written_whole g.L.Listing.piece g.L.Listing.end_of g.L.Listing.HasListed (g.W.CountedWrite.contents c.args.writer.now) terms (map tell all) (c.rows.list, g.W.CountedWrite.contents c.rows.writer) had _ c.end_text.result.now tt (c.end_text.ensures terms (map tell all) had.0) c.in_ok-print_texts.ensures.bytes)

pub returns-in_default-clause-some : goal.returns-in_default-clause-some
returns-in_default-clause-some g c =
    let loop = c.rows.invariant in
    λ terms fresh.
    let has = loop.took.taken terms (fresh, Appends-nil (g.W.CountedWrite.contents c.args.writer.now)) in
    (_, written_whole g.L.Listing.piece g.L.Listing.end_of g.L.Listing.HasListed (g.W.CountedWrite.contents c.args.writer.now) terms _ (c.rows.list, g.W.CountedWrite.contents c.rows.writer) has.1 _ c.end_text.result.now tt (c.end_text.ensures terms _ has.1.0) c.in_ok-print_texts.ensures.bytes)

pub returns-in_default-clause-in_range : goal.returns-in_default-clause-in_range
returns-in_default-clause-in_range g c = λ is. cc

pub returns-in_default-clause-reads : goal.returns-in_default-clause-reads
returns-in_default-clause-reads g c =
    let loop = c.rows.invariant in
    let walks = rw c.in_default.is at c.in_ok-row.ensures.walks in
    reads_whole g.S.Store c.args.walk.now.book.now c.next.new.self.book.now tt
    (walked_out g.S.Store g.P.Place.shown g.P.Place.IsGood g.P.Place.AreAll g.P.Place.IsBehind c.args.walk.now.book.now c.rows.walk c.next.new.self loop.reading walks)
    (usable g.S.Store g.P.Place.shown g.P.Place.IsGood g.P.Place.AreAll g.P.Place.IsBehind c.args.walk.now.book.now c.rows.walk c.next.new.self loop.reading None walks)

pub returns-in_default-clause-cause : goal.returns-in_default-clause-cause
returns-in_default-clause-cause g c =
    c.in_ok-print_texts.ensures.none_failed ∙ c.rows.invariant.none_failed

pub returns-in_err-text-clause-lists : goal.returns-in_err-text-clause-lists
returns-in_err-text-clause-lists g c =
    let fault = err_from_is_err_and c.from_residual-in_err-text.result c.from_residual-in_err-text.ensures.1 in
    let loop = c.rows.invariant in
    rw fault.1 (λ terms fresh tell same clean asked entries has.
    let was = early (state g.S.Store c.rows.walk.book.now.conn) (state g.S.Store c.next.new.self.book.now.conn) c.in_ok-row.ensures.walks.crash clean in
    let prefix = (loop.took.of_book was asked entries has).prefix in
    let had = loop.took.taken terms (fresh, Appends-nil (g.W.CountedWrite.contents c.args.writer.now)) in
    holds_then g.P.Place.shown g.L.Listing.told tell same (g.P.Place.AreAll asked entries) (λ (rows : List g.L.Listing.Told). ListsRows (g.L.Listing.piece terms) (g.L.Listing.end_of terms) rows (g.W.CountedWrite.contents c.args.writer.now) (g.W.CountedWrite.contents c.rows.writer) (Err fault.0)) loop.took.values prefix.0 prefix.1
    (begins_here g.L.Listing.piece g.L.Listing.end_of g.L.Listing.HasListed (g.W.CountedWrite.contents c.args.writer.now) terms (map g.L.Listing.told loop.took.values) (c.rows.list, g.W.CountedWrite.contents c.rows.writer) had.1 (map tell prefix.0) fault.0))

pub returns-in_err-text-clause-rows : goal.returns-in_err-text-clause-rows
returns-in_err-text-clause-rows g c =
    let fault = err_from_is_err_and c.from_residual-in_err-text.result c.from_residual-in_err-text.ensures.1 in
    rw fault.1 (λ terms fresh tell same clean asked tables has. tt)

pub returns-in_err-text-clause-some : goal.returns-in_err-text-clause-some
returns-in_err-text-clause-some g c =
    let fault = err_from_is_err_and c.from_residual-in_err-text.result c.from_residual-in_err-text.ensures.1 in
    let loop = c.rows.invariant in
    rw fault.1 (λ terms fresh.
    let has = loop.took.taken terms (fresh, Appends-nil (g.W.CountedWrite.contents c.args.writer.now)) in
    cut_here g.L.Listing.piece g.L.Listing.end_of g.L.Listing.HasListed (g.W.CountedWrite.contents c.args.writer.now) terms _ (c.rows.list, g.W.CountedWrite.contents c.rows.writer) has.1 fault.0)

pub returns-in_err-text-clause-in_range : goal.returns-in_err-text-clause-in_range
returns-in_err-text-clause-in_range g c =
    let fault = err_from_is_err_and c.from_residual-in_err-text.result c.from_residual-in_err-text.ensures.1 in
    rw (fault.1, fault.2) (walk_in_range (Failed Memory))

pub returns-in_err-text-clause-reads : goal.returns-in_err-text-clause-reads
returns-in_err-text-clause-reads g c =
    let fault = err_from_is_err_and c.from_residual-in_err-text.result c.from_residual-in_err-text.ensures.1 in
    let loop = c.rows.invariant in
    let walks = rw c.in-Some.is at c.in_ok-row.ensures.walks in
    let on = walks_on g.S.Store g.P.Place.shown g.P.Place.IsGood g.P.Place.AreAll g.P.Place.IsBehind c.args.walk.now.book.now c.rows.walk c.next.new.self loop.reading c.in-Some.row walks in
    rw (fault.1, fault.2) (reads_short g.S.Store c.args.walk.now.book.now c.next.new.self.book.now on.read (usable g.S.Store g.P.Place.shown g.P.Place.IsGood g.P.Place.AreAll g.P.Place.IsBehind c.args.walk.now.book.now c.rows.walk c.next.new.self loop.reading (Some c.in-Some.row) walks))

pub returns-in_err-text-clause-cause : goal.returns-in_err-text-clause-cause
returns-in_err-text-clause-cause g c =
    of_walk c.from_residual-in_err-text.result (Failed Memory) (record { before = g.W.CountedWrite.calls c.args.writer.now; after = g.W.CountedWrite.calls c.rows.writer }) c.from_residual-in_err-text.ensures.1
    c.rows.invariant.none_failed

pub returns-in_err-put_text-clause-lists : goal.returns-in_err-put_text-clause-lists
returns-in_err-put_text-clause-lists g c =
    let fault = err_from_is_err_and c.from_residual-in_err-put_text.result c.from_residual-in_err-put_text.ensures.1 in
    let loop = c.rows.invariant in
    let walks = rw c.in-Some.is at c.in_ok-row.ensures.walks in
    rw (fault.1, fault.2) (λ terms fresh tell same clean asked entries has.
    let was = early (state g.S.Store c.rows.walk.book.now.conn) (state g.S.Store c.next.new.self.book.now.conn) walks.crash clean in
    let prefix = (walks.gives clean asked entries (map g.P.Place.shown loop.took.values) (loop.took.of_book was asked entries has)).prefix in
    let had = loop.took.taken terms (fresh, Appends-nil (g.W.CountedWrite.contents c.args.writer.now)) in
    let listed = c.in_ok-text.ensures terms (map g.L.Listing.told loop.took.values) had.1.0 in
    holds_at_row g.P.Place.shown g.L.Listing.told tell same (g.P.Place.AreAll asked entries) (λ (rows : List g.L.Listing.Told). ListsRows (g.L.Listing.piece terms) (g.L.Listing.end_of terms) rows (g.W.CountedWrite.contents c.args.writer.now) (g.W.CountedWrite.contents c.put_text.new.writer) (Err (AtRow (Report (report_fault c.in_err-put_text.field-0.0))))) loop.took.values c.in-Some.row prefix.0 prefix.1
    (begins_at_row g.L.Listing.piece g.L.Listing.end_of g.L.Listing.HasListed (g.W.CountedWrite.contents c.args.writer.now) terms (map g.L.Listing.told loop.took.values) (c.rows.list, g.W.CountedWrite.contents c.rows.writer) had.1 (g.L.Listing.told c.in-Some.row) (map tell prefix.0) (g.W.CountedWrite.contents c.put_text.new.writer) c.as_str.result.now c.in_err-put_text.field-0.0 (Report (report_fault c.in_err-put_text.field-0.0)) (c.as_str.ensures.value ∙ listed.1) c.in_err-put_text.ensures.bytes))

pub returns-in_err-put_text-clause-rows : goal.returns-in_err-put_text-clause-rows
returns-in_err-put_text-clause-rows g c =
    let fault = err_from_is_err_and c.from_residual-in_err-put_text.result c.from_residual-in_err-put_text.ensures.1 in
    rw fault.1 (λ terms fresh tell same clean asked tables has. tt)

pub returns-in_err-put_text-clause-some : goal.returns-in_err-put_text-clause-some
returns-in_err-put_text-clause-some g c =
    let fault = err_from_is_err_and c.from_residual-in_err-put_text.result c.from_residual-in_err-put_text.ensures.1 in
    let loop = c.rows.invariant in
    rw (fault.1, fault.2) (λ terms fresh.
    let has = loop.took.taken terms (fresh, Appends-nil (g.W.CountedWrite.contents c.args.writer.now)) in
    let listed = c.in_ok-text.ensures terms _ has.1.0 in
    cut_at_row g.L.Listing.piece g.L.Listing.end_of g.L.Listing.HasListed (g.W.CountedWrite.contents c.args.writer.now) terms _ (c.rows.list, g.W.CountedWrite.contents c.rows.writer) has.1 _ _ c.as_str.result.now c.in_err-put_text.field-0.0 (Report (report_fault c.in_err-put_text.field-0.0)) (c.as_str.ensures.value ∙ listed.1) c.in_err-put_text.ensures.bytes)

pub returns-in_err-put_text-clause-in_range : goal.returns-in_err-put_text-clause-in_range
returns-in_err-put_text-clause-in_range g c =
    let fault = err_from_is_err_and c.from_residual-in_err-put_text.result c.from_residual-in_err-put_text.ensures.1 in
    rw (fault.1, fault.2) (print_in_range c.in_err-put_text.field-0.0)

pub returns-in_err-put_text-clause-reads : goal.returns-in_err-put_text-clause-reads
returns-in_err-put_text-clause-reads g c =
    let fault = err_from_is_err_and c.from_residual-in_err-put_text.result c.from_residual-in_err-put_text.ensures.1 in
    let loop = c.rows.invariant in
    let walks = rw c.in-Some.is at c.in_ok-row.ensures.walks in
    let on = walks_on g.S.Store g.P.Place.shown g.P.Place.IsGood g.P.Place.AreAll g.P.Place.IsBehind c.args.walk.now.book.now c.rows.walk c.next.new.self loop.reading c.in-Some.row walks in
    rw (fault.1, fault.2)
    (reads_cut g.S.Store c.args.walk.now.book.now c.next.new.self.book.now (Report (report_fault c.in_err-put_text.field-0.0)) (λ is. cc) on.read
    (usable g.S.Store g.P.Place.shown g.P.Place.IsGood g.P.Place.AreAll g.P.Place.IsBehind c.args.walk.now.book.now c.rows.walk c.next.new.self loop.reading (Some c.in-Some.row) walks))

pub returns-in_err-put_text-clause-cause : goal.returns-in_err-put_text-clause-cause
returns-in_err-put_text-clause-cause g c =
    of_row c.from_residual-in_err-put_text.result (Report (report_fault c.in_err-put_text.field-0.0)) (record { before = g.W.CountedWrite.calls c.args.writer.now; after = g.W.CountedWrite.calls c.put_text.new.writer }) c.from_residual-in_err-put_text.ensures.1
    (λ is. c.in_err-put_text.ensures.cause)

pub rows-preserved : goal.rows-preserved
rows-preserved g c =
    let loop = c.rows.invariant in
    let walks = rw c.in-Some.is at c.in_ok-row.ensures.walks in
    let rows = rw c.in-Some.is at c.in_ok-row.ensures.rows in
    record {
      same_book = c.in_ok-row.ensures.same_reference ∙ loop.same_book;
      reading = walks_on g.S.Store g.P.Place.shown g.P.Place.IsGood g.P.Place.AreAll g.P.Place.IsBehind c.args.walk.now.book.now c.rows.walk c.next.new.self loop.reading c.in-Some.row walks;
      usable = λ below. usable g.S.Store g.P.Place.shown g.P.Place.IsGood g.P.Place.AreAll g.P.Place.IsBehind c.args.walk.now.book.now c.rows.walk c.next.new.self loop.reading (Some c.in-Some.row) walks;
      none_failed = c.in_ok-put_text.ensures.none_failed ∙ loop.none_failed;
      took = took_more g.S.Store g.P.Place.shown g.P.Place.IsGood g.P.Place.AreAll g.P.Place.IsBehind g.P.Place.AreAllRows g.P.Place.IsBehindRows g.L.Listing.told (λ terms rows row. true) (HasWritten g.L.Listing.piece g.L.Listing.end_of g.L.Listing.HasListed (g.W.CountedWrite.contents c.args.writer.now)) c.args.walk.now (c.args.list.now, g.W.CountedWrite.contents c.args.writer.now) c.rows.walk c.next.new.self (c.rows.list, g.W.CountedWrite.contents c.rows.writer) loop.took c.in-Some.row walks (c.next_text.new.self, g.W.CountedWrite.contents c.put_text.new.writer) tt rows
          (λ terms before had.
          let listed = c.in_ok-text.ensures terms before had.0 in
          (refl, written_more g.L.Listing.piece g.L.Listing.end_of g.L.Listing.HasListed (g.W.CountedWrite.contents c.args.writer.now) terms before (c.rows.list, g.W.CountedWrite.contents c.rows.writer) had _ c.next_text.new.self _ c.as_str.result.now tt listed.0 (c.as_str.ensures.value ∙ listed.1) c.in_ok-put_text.ensures.bytes));
    }

pub returns-clause-lists : goal.returns-clause-lists
returns-clause-lists g c =
    let loop = c.rows.invariant in
    λ terms fresh tell same clean asked entries has.
    let prefix = (loop.took.of_book clean asked entries has).prefix in
    let had = loop.took.taken terms (fresh, Appends-nil (g.W.CountedWrite.contents c.args.writer.now)) in
    holds_then g.P.Place.shown g.L.Listing.told tell same (g.P.Place.AreAll asked entries) (λ (rows : List g.L.Listing.Told). ListsRows (g.L.Listing.piece terms) (g.L.Listing.end_of terms) rows (g.W.CountedWrite.contents c.args.writer.now) (g.W.CountedWrite.contents c.rows.writer) (Err c.from.result)) loop.took.values prefix.0 prefix.1
    (begins_here g.L.Listing.piece g.L.Listing.end_of g.L.Listing.HasListed (g.W.CountedWrite.contents c.args.writer.now) terms (map g.L.Listing.told loop.took.values) (c.rows.list, g.W.CountedWrite.contents c.rows.writer) had.1 (map tell prefix.0) c.from.result)

pub returns-clause-rows : goal.returns-clause-rows
returns-clause-rows g c =
    λ terms fresh tell same clean asked tables has. tt

pub returns-clause-some : goal.returns-clause-some
returns-clause-some g c =
    let loop = c.rows.invariant in
    λ terms fresh.
    let has = loop.took.taken terms (fresh, Appends-nil (g.W.CountedWrite.contents c.args.writer.now)) in
    cut_here g.L.Listing.piece g.L.Listing.end_of g.L.Listing.HasListed (g.W.CountedWrite.contents c.args.writer.now) terms _ (c.rows.list, g.W.CountedWrite.contents c.rows.writer) has.1 c.from.result

pub returns-clause-in_range : goal.returns-clause-in_range
returns-clause-in_range g c = rw c.from.ensures (walk_in_range (Failed Memory))

pub returns-clause-reads : goal.returns-clause-reads
returns-clause-reads g c =
    let loop = c.rows.invariant in
    rw c.from.ensures (reads_short g.S.Store c.args.walk.now.book.now c.rows.walk.book.now loop.reading.read (loop.usable (omega arith)))

pub returns-clause-cause : goal.returns-clause-cause
returns-clause-cause g c =
    of_walk (Err c.from.result) (Failed Memory) (record { before = g.W.CountedWrite.calls c.args.writer.now; after = g.W.CountedWrite.calls c.rows.writer }) c.from.ensures c.rows.invariant.none_failed
