use Rattle.std.proofs.Common.{Err, ap}
use Rattle.std.proofs.lemmas.Result.{err_from_is_err_and}
use Rattle.sqlite.specs.Held.{state}
use Rattle.lot_walk.proofs.JournalLemmas.{entry_next, entry_none, entry_refused, entry_rows_end, entry_rows_next, entry_unread}
use Rattle.lot_walk.proofs.journal.JournalPlacePlace.next.Goals as goal

pub returns-in_err-row-clause-steps : goal.returns-in_err-row-clause-steps
returns-in_err-row-clause-steps g c =
    let fault = err_from_is_err_and c.from_residual.result c.from_residual.ensures.1 in
    rw (fault.1, fault.2) (entry_unread c.args.self.now _ (state g.S.Store c.args.conn.now) (state g.S.Store c.next.new.conn) c.in_err-row.field-0.0 c.in_err-row.ensures.steps)

pub returns-in_default-clause-steps : goal.returns-in_default-clause-steps
returns-in_default-clause-steps g c =
    entry_none c.args.self.now _ (state g.S.Store c.args.conn.now) (state g.S.Store c.next.new.conn) (rw c.in_default.is at c.in_ok-row.ensures.steps)

pub returns-in_err-entry_of-clause-steps : goal.returns-in_err-entry_of-clause-steps
returns-in_err-entry_of-clause-steps g c =
    let fault = err_from_is_err_and c.from_residual-in_err-entry_of.result c.from_residual-in_err-entry_of.ensures.1 in
    let made = c.in_err-entry_of.ensures in
    rw (fault.1, fault.2)
    (entry_refused c.args.self.now _ (state g.S.Store c.args.conn.now) (state g.S.Store c.next.new.conn) c.in-Some.row c.in_err-entry_of.field-0.0 (λ e. made.no_device (ap Err e)) (λ e. made.damaged (ap Err e))
    (rw c.in-Some.is at c.in_ok-row.ensures.steps))

pub returns-clause-steps : goal.returns-clause-steps
returns-clause-steps g c =
    let made = c.in_ok-entry_of.ensures in
    entry_next c.args.self.now _ (state g.S.Store c.args.conn.now) (state g.S.Store c.next.new.conn) c.in-Some.row c.in_ok-entry_of.field-0 made.ok made.good (rw c.in-Some.is at c.in_ok-row.ensures.steps)

pub returns-in_default-clause-rows : goal.returns-in_default-clause-rows
returns-in_default-clause-rows g c =
    entry_rows_end c.args.self.now _ (state g.S.Store c.args.conn.now) (state g.S.Store c.next.new.conn) (rw c.in_default.is at c.in_ok-row.ensures.steps)

pub returns-clause-rows : goal.returns-clause-rows
returns-clause-rows g c =
    entry_rows_next c.args.self.now _ (state g.S.Store c.args.conn.now) (state g.S.Store c.next.new.conn) c.in-Some.row c.in_ok-entry_of.field-0 c.in_ok-entry_of.ensures.ok
    (rw c.in-Some.is at c.in_ok-row.ensures.steps)
