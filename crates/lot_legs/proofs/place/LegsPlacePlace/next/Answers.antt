use Rattle.std.proofs.lemmas.Result.{err_from_is_err_and}
use Rattle.sqlite.specs.Held.{state}
use Rattle.lot_legs.proofs.PlaceLemmas.{leg_row_given, leg_rows_end, steps_end, steps_given, steps_lost, steps_unread}
use Rattle.lot_legs.proofs.place.LegsPlacePlace.next.Goals as goal

pub returns-in_err-row-clause-steps : goal.returns-in_err-row-clause-steps
returns-in_err-row-clause-steps g c =
    let fault = err_from_is_err_and c.from_residual.result c.from_residual.ensures.1 in
    rw (fault.1, fault.2)
    (steps_unread c.args.self.now (record c.args.self.now { legs = c.next.new.self }) (state g.S.Store c.args.conn.now) (state g.S.Store c.next.new.conn) c.in_err-row.field-0.0 c.in_err-row.ensures.steps)

pub returns-in_default-clause-steps : goal.returns-in_default-clause-steps
returns-in_default-clause-steps g c =
    steps_end c.args.self.now (record c.args.self.now { legs = c.next.new.self }) (state g.S.Store c.args.conn.now) (state g.S.Store c.next.new.conn) (rw c.in_default.is at c.in_ok-row.ensures.steps)

pub returns-in_err-day-clause-steps : goal.returns-in_err-day-clause-steps
returns-in_err-day-clause-steps g c =
    let fault = err_from_is_err_and c.from_residual-in_err-day.result c.from_residual-in_err-day.ensures.1 in
    rw (fault.1, fault.2)
    (steps_lost c.args.self.now (record { legs = c.next.new.self; days = c.day_of.new.self }) (state g.S.Store c.args.conn.now) (state g.S.Store c.next.new.conn) (state g.S.Store c.day_of.new.conn) c.in-Some.row
    (rw c.in-Some.is at c.in_ok-row.ensures.steps) c.in_err-day.field-0.0 (rw c.number.ensures.value at c.in_err-day.ensures.finds))

pub returns-clause-steps : goal.returns-clause-steps
returns-clause-steps g c =
    rw c.dated_row.ensures
    (steps_given c.args.self.now (record { legs = c.next.new.self; days = c.day_of.new.self }) (state g.S.Store c.args.conn.now) (state g.S.Store c.next.new.conn) (state g.S.Store c.day_of.new.conn) c.in-Some.row
    (rw c.in-Some.is at c.in_ok-row.ensures.steps) c.in_ok-day.day (rw c.number.ensures.value at c.in_ok-day.ensures.finds))

pub returns-in_default-clause-rows : goal.returns-in_default-clause-rows
returns-in_default-clause-rows g c =
    leg_rows_end c.args.self.now (record c.args.self.now { legs = c.next.new.self }) (state g.S.Store c.args.conn.now) (state g.S.Store c.next.new.conn) (rw c.in_default.is at c.in_ok-row.ensures.steps)

pub returns-clause-rows : goal.returns-clause-rows
returns-clause-rows g c =
    rw c.dated_row.ensures
    (leg_row_given c.args.self.now (record { legs = c.next.new.self; days = c.day_of.new.self }) (state g.S.Store c.args.conn.now) (state g.S.Store c.next.new.conn) (state g.S.Store c.day_of.new.conn) c.in-Some.row
    (rw c.in-Some.is at c.in_ok-row.ensures.steps) c.in_ok-day.day (rw c.number.ensures.value at c.in_ok-day.ensures.finds))
