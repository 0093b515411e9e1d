use Rattle.std.proofs.lemmas.Result.{err_from_is_err_and}
use Rattle.sqlite.specs.Held.{state}
use Rattle.lot_recall.proofs.DayLemmas.{day_blank, day_end, day_next, day_unread, rows_end, rows_next}
use Rattle.lot_recall.proofs.days.DaysPlacePlace.next.Goals as goal

pub returns-in_err-row-clause-steps : goal.returns-in_err-row-clause-steps
returns-in_err-row-clause-steps g c =
    let fault = err_from_is_err_and c.from_residual.result c.from_residual.ensures.1 in
    rw (fault.1, fault.2)
    (day_unread c.args.self.now _ (state g.S.Store c.args.conn.now) (state g.S.Store c.next.new.conn) c.in_err-row.field-0.0 c.in_err-row.ensures.steps)

pub returns-in_default-clause-steps : goal.returns-in_default-clause-steps
returns-in_default-clause-steps g c =
    day_end c.args.self.now _ (state g.S.Store c.args.conn.now) (state g.S.Store c.next.new.conn) (rw c.in_default.is at c.in_ok-row.ensures.steps)

pub returns-in_default-clause-rows : goal.returns-in_default-clause-rows
returns-in_default-clause-rows g c =
    rows_end c.args.self.now _ (state g.S.Store c.args.conn.now) (state g.S.Store c.next.new.conn) (rw c.in_default.is at c.in_ok-row.ensures.steps)

pub returns-in-Some-day_at_front-clause-steps : goal.returns-in-Some-day_at_front-clause-steps
returns-in-Some-day_at_front-clause-steps g c =
    day_next c.args.self.now _ (state g.S.Store c.args.conn.now) (state g.S.Store c.next.new.conn) c.in-Some.row (rw c.in-Some.is at c.in_ok-row.ensures.steps)
    c.in-Some-day_at_front.day (rw c.as_str.ensures at (rw c.in-Some-day_at_front.is at c.day_at_front.ensures.day))

pub returns-in-Some-day_at_front-clause-rows : goal.returns-in-Some-day_at_front-clause-rows
returns-in-Some-day_at_front-clause-rows g c =
    rows_next c.args.self.now _ (state g.S.Store c.args.conn.now) (state g.S.Store c.next.new.conn) c.in-Some.row (rw c.in-Some.is at c.in_ok-row.ensures.steps)
    c.in-Some-day_at_front.day (rw c.as_str.ensures at (rw c.in-Some-day_at_front.is at c.day_at_front.ensures.day))

pub returns-clause-steps : goal.returns-clause-steps
returns-clause-steps g c =
    day_blank c.args.self.now _ (state g.S.Store c.args.conn.now) (state g.S.Store c.next.new.conn) c.in-Some.row (rw c.in-Some.is at c.in_ok-row.ensures.steps)
    (rw c.as_str.ensures at (c.day_at_front.ensures.none c.in-None.is))
