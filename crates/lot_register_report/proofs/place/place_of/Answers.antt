-- The place is one in the order of days, or one at keys.
use Rattle.std.proofs.Common.{Err, Ok}
use Rattle.std.proofs.lemmas.Result.{err_from_is_err_and}
use Rattle.sqlite.specs.Held.{state}
use Rattle.lot_book_report.proofs.HoldingLemmas.{same_fault}
use Rattle.lot_book_report.proofs.ReadLemmas.{reads_then, stands_still, was_read}
use Rattle.lot_noted.specs.Book.{asked_in}
use Rattle.lot_register_report.proofs.KeyLemmas.{made_reads}
use Rattle.lot_register_report.proofs.PlaceLemmas.{at_keys, fault_made, legs_made, reads_made, rows_at_keys, rows_made}
use Rattle.lot_rows.proofs.StateLemmas.{early}
use Rattle.lot_walk.proofs.PlaceLemmas.{has_still}
use Rattle.lot_register_report.proofs.place.place_of.Goals as goal

-- ---- the days aren't read

pub returns-in_err-never_fall-clause-legs : goal.returns-in_err-never_fall-clause-legs
returns-in_err-never_fall-clause-legs g c =
    let fault = err_from_is_err_and c.from_residual.result c.from_residual.ensures.1 in
    rw fault.1 (record { holds = λ clean entries stands. tt })

pub returns-in_err-never_fall-clause-rows : goal.returns-in_err-never_fall-clause-rows
returns-in_err-never_fall-clause-rows g c =
    let fault = err_from_is_err_and c.from_residual.result c.from_residual.ensures.1 in
    rw fault.1 (record { holds = λ clean tables has. tt })

pub returns-in_err-never_fall-clause-reads : goal.returns-in_err-never_fall-clause-reads
returns-in_err-never_fall-clause-reads g c =
    let fault = err_from_is_err_and c.from_residual.result c.from_residual.ensures.1 in
    rw (fault.1, fault.2) (same_fault g.S.Store c.args.book.now c.days_never_fall.new.book c.in_err-never_fall.field-0.0 c.in_err-never_fall.ensures.reads)

pub returns-in_err-never_fall-clause-fault : goal.returns-in_err-never_fall-clause-fault
returns-in_err-never_fall-clause-fault g c =
    let fault = err_from_is_err_and c.from_residual.result c.from_residual.ensures.1 in
    rw (fault.1, fault.2) c.in_err-never_fall.ensures.fault

-- ---- they never fall

pub returns-then-never_fall-clause-legs : goal.returns-then-never_fall-clause-legs
returns-then-never_fall-clause-legs g c = record {
  holds = λ clean entries stands.
      legs_made c.in_order.result (asked_in c.args.scope.now) entries c.in_order.ensures.legs
      (c.in_ok-never_fall.ensures.days.holds clean entries stands c.if-never_fall.true);
}

pub returns-then-never_fall-clause-rows : goal.returns-then-never_fall-clause-rows
returns-then-never_fall-clause-rows g c = record {
  holds = λ clean tables has. rows_made c.in_order.result (asked_in c.args.scope.now) tables c.in_order.ensures.rows;
}

pub returns-then-never_fall-clause-reads : goal.returns-then-never_fall-clause-reads
returns-then-never_fall-clause-reads g c =
    reads_made g.S.Store c.args.book.now c.days_never_fall.new.book _ c.in_ok-never_fall.ensures.reads c.in_order.result c.in_order.ensures.memory

pub returns-then-never_fall-clause-fault : goal.returns-then-never_fall-clause-fault
returns-then-never_fall-clause-fault g c = fault_made c.in_order.result c.in_order.ensures.memory

-- ---- they fall, and the keys aren't read

pub returns-in_err-keys-clause-legs : goal.returns-in_err-keys-clause-legs
returns-in_err-keys-clause-legs g c =
    let fault = err_from_is_err_and c.from_residual-in_err-keys.result c.from_residual-in_err-keys.ensures.1 in
    rw fault.1 (record { holds = λ clean entries stands. tt })

pub returns-in_err-keys-clause-rows : goal.returns-in_err-keys-clause-rows
returns-in_err-keys-clause-rows g c =
    let fault = err_from_is_err_and c.from_residual-in_err-keys.result c.from_residual-in_err-keys.ensures.1 in
    rw fault.1 (record { holds = λ clean tables has. tt })

pub returns-in_err-keys-clause-reads : goal.returns-in_err-keys-clause-reads
returns-in_err-keys-clause-reads g c =
    let fault = err_from_is_err_and c.from_residual-in_err-keys.result c.from_residual-in_err-keys.ensures.1 in
    let old = c.args.book.now in
    let mid = c.days_never_fall.new.book in
    rw (fault.1, fault.2)
    (same_fault g.S.Store old c.read_keys.new.book c.in_err-keys.field-0.0
    (reads_then g.S.Store old mid c.read_keys.new.book (was_read g.S.Store old mid _ c.in_ok-never_fall.ensures.reads) (Err c.in_err-keys.field-0.0) c.in_err-keys.ensures.reads))

pub returns-in_err-keys-clause-fault : goal.returns-in_err-keys-clause-fault
returns-in_err-keys-clause-fault g c =
    let fault = err_from_is_err_and c.from_residual-in_err-keys.result c.from_residual-in_err-keys.ensures.1 in
    rw (fault.1, fault.2) c.in_err-keys.ensures.fault

-- ---- they are read

pub returns-clause-legs : goal.returns-clause-legs
returns-clause-legs g c =
    let old = c.args.book.now in
    let mid = c.days_never_fall.new.book in
    let asked = asked_in c.args.scope.now in
    let read = was_read g.S.Store old mid _ c.in_ok-never_fall.ensures.reads in
    record {
      holds = λ clean entries stands.
          let was = early (state g.S.Store mid.conn) (state g.S.Store c.read_keys.new.book.conn) c.in_ok-keys.ensures.reads.crash clean in
          let there = stands_still (state g.S.Store old.conn) (state g.S.Store mid.conn) entries (read.same was) stands in
          at_keys asked entries stands.book c.in_ok-keys.keys.items (c.in_ok-keys.ensures.keys.holds clean entries there) c.new.result c.new.ensures.begun;
    }

pub returns-clause-rows : goal.returns-clause-rows
returns-clause-rows g c =
    let old = c.args.book.now in
    let mid = c.days_never_fall.new.book in
    let read = was_read g.S.Store old mid _ c.in_ok-never_fall.ensures.reads in
    record {
      holds = λ clean tables has.
          let was = early (state g.S.Store mid.conn) (state g.S.Store c.read_keys.new.book.conn) c.in_ok-keys.ensures.reads.crash clean in
          let there = has_still (state g.S.Store old.conn) (state g.S.Store mid.conn) tables (read.same was) has in
          rows_at_keys (asked_in c.args.scope.now) tables c.in_ok-keys.keys.items (c.in_ok-keys.ensures.rows.holds clean tables there) c.new.result c.new.ensures.rows;
    }

pub returns-clause-reads : goal.returns-clause-reads
returns-clause-reads g c =
    let old = c.args.book.now in
    let mid = c.days_never_fall.new.book in
    made_reads g.S.Store old c.read_keys.new.book _ _
    (reads_then g.S.Store old mid c.read_keys.new.book (was_read g.S.Store old mid _ c.in_ok-never_fall.ensures.reads) (Ok c.in_ok-keys.keys) c.in_ok-keys.ensures.reads)
