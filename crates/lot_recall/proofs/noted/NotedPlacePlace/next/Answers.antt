use Rattle.std.proofs.Common.{rules}
use Rattle.std.proofs.lemmas.Result.{err_from_is_err_and}
use Rattle.sqlite.specs.Held.{state}
use Rattle.lot_recall.proofs.NotedLemmas.{leg_left, rows_noted, rows_noted_end, steps_no_leg, steps_no_note, steps_noted, steps_noted_end}
use Rattle.lot_recall.proofs.noted.NotedPlacePlace.next.Goals as goal

-- ---- no leg is read

pub returns-in_err-leg-clause-steps : goal.returns-in_err-leg-clause-steps
returns-in_err-leg-clause-steps g c =
    let fault = err_from_is_err_and c.from_residual.result c.from_residual.ensures.1 in
    rw (fault.1, fault.2)
    (steps_no_leg c.args.self.now c.next.new.self (state g.S.Store c.args.conn.now) (state g.S.Store c.next.new.conn) (record c.args.self.now { legs = c.next.new.self })
    c.in_err-leg.field-0.0 c.in_err-leg.ensures.steps)

pub returns-in_default-clause-steps : goal.returns-in_default-clause-steps
returns-in_default-clause-steps g c =
    steps_noted_end c.args.self.now c.next.new.self (state g.S.Store c.args.conn.now) (state g.S.Store c.next.new.conn) (record c.args.self.now { legs = c.next.new.self })
    (rw c.in_default.is at c.in_ok-leg.ensures.steps)

pub returns-in_default-clause-rows : goal.returns-in_default-clause-rows
returns-in_default-clause-rows g c =
    rows_noted_end c.args.self.now c.next.new.self (state g.S.Store c.args.conn.now) (state g.S.Store c.next.new.conn) (record c.args.self.now { legs = c.next.new.self })
    (rw c.in_default.is at c.in_ok-leg.ensures.rows)

-- ---- it has no narration

pub returns-in_err-narration-clause-steps : goal.returns-in_err-narration-clause-steps
returns-in_err-narration-clause-steps g c =
    let fault = err_from_is_err_and c.from_residual-in_err-narration.result c.from_residual-in_err-narration.ensures.1 in
    rw (fault.1, fault.2)
    (steps_no_note c.args.self.now c.next.new.self (state g.S.Store c.args.conn.now) (state g.S.Store c.next.new.conn) c.in-Some.leg
    (rw c.in-Some.is at c.in_ok-leg.ensures.steps) _ c.in_err-narration.field-0.0 (search rules) c.in_err-narration.ensures.damaged)

pub returns-in_err-narration-clause-left : goal.returns-in_err-narration-clause-left
returns-in_err-narration-clause-left g c =
    let fault = err_from_is_err_and c.from_residual-in_err-narration.result c.from_residual-in_err-narration.ensures.1 in
    rw fault.1
    (leg_left c.args.self.now c.next.new.self (state g.S.Store c.args.conn.now) (state g.S.Store c.next.new.conn) c.in-Some.leg
    (rw c.in-Some.is at c.in_ok-leg.ensures.steps))

-- ---- the leg is given

pub returns-clause-steps : goal.returns-clause-steps
returns-clause-steps g c =
    rw c.noted.ensures
    (steps_noted c.args.self.now c.next.new.self (state g.S.Store c.args.conn.now) (state g.S.Store c.next.new.conn) c.in-Some.leg
    (rw c.in-Some.is at c.in_ok-leg.ensures.steps) (rw c.in-Some.is at c.in_ok-leg.ensures.rows) c.in_ok-narration.narration
    c.narration.new.self c.in_ok-narration.ensures.tells c.in_ok-narration.ensures.legs c.canonical_texts_tell_commands_apart.ensures.one)

pub returns-clause-rows : goal.returns-clause-rows
returns-clause-rows g c =
    rw c.noted.ensures
    (rows_noted c.args.self.now c.next.new.self (state g.S.Store c.args.conn.now) (state g.S.Store c.next.new.conn) c.in-Some.leg
    (rw c.in-Some.is at c.in_ok-leg.ensures.steps) (rw c.in-Some.is at c.in_ok-leg.ensures.rows) c.in_ok-narration.narration
    c.narration.new.self c.in_ok-narration.ensures.tells c.in_ok-narration.ensures.legs)
