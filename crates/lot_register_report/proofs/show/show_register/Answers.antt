-- The place is looked for first, and then the legs from there on are written.
use Rattle.std.proofs.Common.{[], Err, ap, refl, rules, subst, sym}
use Rattle.std.proofs.lemmas.Result.{err_from_is_err_and}
use Rattle.sqlite.specs.Held.{state}
use Rattle.sqlite.specs.State.{HasCleanDisk}
use Rattle.lot_book_report.proofs.CsvLemmas.{walked}
use Rattle.lot_book_report.proofs.HoldingLemmas.{same_fault}
use Rattle.lot_book_report.proofs.ReadLemmas.{handed_holds, handed_tables, reads_then, stands_still, was_read}
use Rattle.lot_noted.specs.Book.{asked_in, register_legs}
use Rattle.lot_register_report.proofs.LegLemmas.{of_book, of_tables, rows_begin, unread, unread_cause, walk_begins}
use Rattle.lot_rows.proofs.StateLemmas.{early}
use Rattle.lot_rows.specs.Tables.{Has}
use Rattle.lot_store.proofs.ApplyLemmas.{stands_along}
use Rattle.lot_stored.specs.StandFor.{Stands}
use Rattle.lot_walk.proofs.PlaceLemmas.{has_still}
use Rattle.lot_register_report.proofs.show.show_register.Goals as goal

-- ---- there is no place

pub returns-in_err-place-clause-shows : goal.returns-in_err-place-clause-shows
returns-in_err-place-clause-shows g c =
    let fault = err_from_is_err_and c.from_residual.result c.from_residual.ensures.1 in
    let read = c.in_err-place.ensures in
    rw (fault.1, fault.2) (record {
      holds = λ clean entries stands.
          unread (c.args.form, c.args.first) (register_legs (asked_in c.args.scope.now) entries) _ c.in_err-place.field-0.0 read.fault (λ is. read.reads.going (ap Err is));
    })

pub returns-in_err-place-clause-some : goal.returns-in_err-place-clause-some
returns-in_err-place-clause-some g c =
    let fault = err_from_is_err_and c.from_residual.result c.from_residual.ensures.1 in
    let read = c.in_err-place.ensures in
    rw (fault.1, fault.2) ([], unread (c.args.form, c.args.first) [] _ c.in_err-place.field-0.0 read.fault (λ is. read.reads.going (ap Err is)))

pub returns-in_err-place-clause-rows : goal.returns-in_err-place-clause-rows
returns-in_err-place-clause-rows g c =
    let fault = err_from_is_err_and c.from_residual.result c.from_residual.ensures.1 in
    rw fault.1 (record { holds = λ clean tables has. tt })

pub returns-in_err-place-clause-reads : goal.returns-in_err-place-clause-reads
returns-in_err-place-clause-reads g c =
    let fault = err_from_is_err_and c.from_residual.result c.from_residual.ensures.1 in
    rw (fault.1, fault.2) (same_fault g.S.Store c.args.book.now c.place_of.new.book c.in_err-place.field-0.0 c.in_err-place.ensures.reads)

pub returns-in_err-place-clause-cause : goal.returns-in_err-place-clause-cause
returns-in_err-place-clause-cause g c =
    let fault = err_from_is_err_and c.from_residual.result c.from_residual.ensures.1 in
    rw (fault.1, fault.2)
    (unread_cause c.in_err-place.field-0.0 (record { before = g.W.CountedWrite.calls c.args.writer.now; after = g.W.CountedWrite.calls c.args.writer.now }) c.in_err-place.ensures.fault
    refl)

-- ---- the legs are written

pub write_register-requires-clause-begun : goal.write_register-requires-clause-begun
write_register-requires-clause-begun g c = λ clean entries stands.
    let old = c.args.book.now in
    let mid = c.place_of.new.book in
    let walk = c.walk_from-walk.result in
    let place = c.in_ok-place.place in
    let asked = asked_in c.args.scope.now in
    let was = subst (λ book. HasCleanDisk (state g.S.Store book.conn)) c.walk_from-walk.ensures.same clean in
    let there = subst (λ book. Stands (state g.S.Store book.conn) entries) c.walk_from-walk.ensures.same stands in
    let read = was_read g.S.Store old mid _ c.in_ok-place.ensures.reads in
    let before = stands_along (state g.S.Store mid.conn) (state g.S.Store old.conn) entries (sym (read.same was).now) there in
    let begins = c.in_ok-place.ensures.legs.holds was entries before in
    (begins.wanted, walk_begins g.S.Store walk place c.walk_from-walk.ensures.going c.walk_from-walk.ensures.place asked entries stands begins)

pub returns-clause-shows : goal.returns-clause-shows
returns-clause-shows g c =
    let old = c.args.book.now in
    let mid = c.place_of.new.book in
    let walk = c.walk_from-walk.result in
    let after = c.write_register.new.walk.book.now in
    let place = c.in_ok-place.place in
    let asked = asked_in c.args.scope.now in
    let read = was_read g.S.Store old mid _ c.in_ok-place.ensures.reads in
    handed_holds g.S.Store old after _ _ (search rules) (record {
      holds = λ clean entries stands.
          let begun = early (state g.S.Store walk.book.now.conn) (state g.S.Store after.conn) c.write_register.ensures.reads.crash clean in
          let was = subst (λ book. HasCleanDisk (state g.S.Store book.conn)) c.walk_from-walk.ensures.same begun in
          let begins = c.in_ok-place.ensures.legs.holds was entries stands in
          let there = stands_still (state g.S.Store old.conn) (state g.S.Store mid.conn) entries (read.same was) stands in
          let here = subst (λ book. Stands (state g.S.Store book.conn) entries) (sym c.walk_from-walk.ensures.same) there in
          of_book (c.args.form, c.args.first) asked entries place begins _ _ c.write_register.result
          (c.write_register.ensures.shows (c.args.form, c.args.first) c.new-register.ensures clean begins.wanted entries
          (walk_begins g.S.Store walk place c.walk_from-walk.ensures.going c.walk_from-walk.ensures.place asked entries here begins));
    })

pub returns-clause-some : goal.returns-clause-some
returns-clause-some g c = c.write_register.ensures.some (c.args.form, c.args.first) c.new-register.ensures

pub returns-clause-rows : goal.returns-clause-rows
returns-clause-rows g c =
    let old = c.args.book.now in
    let mid = c.place_of.new.book in
    let walk = c.walk_from-walk.result in
    let after = c.write_register.new.walk.book.now in
    let place = c.in_ok-place.place in
    let asked = asked_in c.args.scope.now in
    let read = was_read g.S.Store old mid _ c.in_ok-place.ensures.reads in
    handed_tables g.S.Store old after _ _ (search rules) (record {
      holds = λ clean tables has.
          let begun = early (state g.S.Store walk.book.now.conn) (state g.S.Store after.conn) c.write_register.ensures.reads.crash clean in
          let was = subst (λ book. HasCleanDisk (state g.S.Store book.conn)) c.walk_from-walk.ensures.same begun in
          let begins = c.in_ok-place.ensures.rows.holds was tables has in
          let there = has_still (state g.S.Store old.conn) (state g.S.Store mid.conn) tables (read.same was) has in
          let here = subst (λ book. Has (state g.S.Store book.conn) tables) (sym c.walk_from-walk.ensures.same) there in
          of_tables (c.args.form, c.args.first) asked tables place begins _ _ c.write_register.result
          (c.write_register.ensures.rows (c.args.form, c.args.first) c.new-register.ensures clean begins.wanted tables
          (rows_begin g.S.Store walk place c.walk_from-walk.ensures.going c.walk_from-walk.ensures.place asked tables here begins));
    })

pub returns-clause-reads : goal.returns-clause-reads
returns-clause-reads g c =
    let old = c.args.book.now in
    let mid = c.place_of.new.book in
    reads_then g.S.Store old mid _ (was_read g.S.Store old mid _ c.in_ok-place.ensures.reads) c.write_register.result
    (walked g.S.Store mid c.walk_from-walk.result.book.now c.write_register.new.walk.book.now _ c.write_register.result c.walk_from-walk.ensures.same (search rules)
    c.write_register.ensures.reads)
