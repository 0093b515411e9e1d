use Rattle.std.proofs.Common.{refl, sym, ◌∙◌}
use Rattle.std.proofs.lemmas.Result.{err_from_is_err_and}
use Rattle.sqlite.specs.Held.{state}
use Rattle.lot_recall.specs.Scope.{owned}
use Rattle.lot_recall.proofs.OrderedLemmas.{apart_for, full_left, here_for, left_by, ordered_by, ordered_end, ordered_full, ordered_rows_end, ordered_unread, row_by, unread_left, went_none, went_on}
use Rattle.lot_recall.proofs.ordered.OrderedPlacePlace.next.Goals as goal

pub legs-init : goal.legs-init
legs-init g c = record {
  scope = refl;
  last = refl;
  went = went_none (owned c.args.self.now.scope) c.args.self.now.noted (state g.S.Store c.args.conn.now);
}

-- ---- no leg is read

pub returns-in_err-leg-clause-steps : goal.returns-in_err-leg-clause-steps
returns-in_err-leg-clause-steps g c =
    let fault = err_from_is_err_and c.from_residual.result c.from_residual.ensures.1 in
    rw (fault.1, fault.2)
    (ordered_unread c.args.self.now c.legs.self.noted (state g.S.Store c.args.conn.now) (state g.S.Store c.legs.conn) (state g.S.Store c.next.new.conn)
    c.legs.invariant.went _ c.next.new.self c.in_err-leg.field-0.0 c.in_err-leg.ensures.steps)

pub returns-in_err-leg-clause-left : goal.returns-in_err-leg-clause-left
returns-in_err-leg-clause-left g c =
    let fault = err_from_is_err_and c.from_residual.result c.from_residual.ensures.1 in
    rw fault.1
    (unread_left c.args.self.now c.legs.self.noted (state g.S.Store c.args.conn.now) (state g.S.Store c.legs.conn) (state g.S.Store c.next.new.conn)
    c.legs.invariant.went c.next.new.self c.in_err-leg.field-0.0 c.in_err-leg.ensures.steps c.in_err-leg.ensures.left)

pub returns-in_default-clause-steps : goal.returns-in_default-clause-steps
returns-in_default-clause-steps g c =
    ordered_end c.args.self.now c.legs.self.noted (state g.S.Store c.args.conn.now) (state g.S.Store c.legs.conn) (state g.S.Store c.next.new.conn)
    c.legs.invariant.went _ c.next.new.self (rw c.in_default.is at c.in_ok-leg.ensures.steps)

pub returns-in_default-clause-rows : goal.returns-in_default-clause-rows
returns-in_default-clause-rows g c =
    ordered_rows_end c.args.self.now c.legs.self.noted (state g.S.Store c.args.conn.now) (state g.S.Store c.legs.conn) (state g.S.Store c.next.new.conn)
    c.legs.invariant.went (record c.legs.self { noted = c.next.new.self }) c.next.new.self (rw c.in_default.is at c.in_ok-leg.ensures.steps) (rw c.in_default.is at c.in_ok-leg.ensures.rows)

-- ---- the leg is asked for

pub returns-then-has-clause-steps : goal.returns-then-has-clause-steps
returns-then-has-clause-steps g c =
    let place = c.args.self.now in
    ordered_by place c.legs.self.noted (state g.S.Store c.args.conn.now) (state g.S.Store c.legs.conn) (state g.S.Store c.next.new.conn)
    c.legs.invariant.went c.next.new.self c.in-Some.leg (rw c.in-Some.is at c.in_ok-leg.ensures.steps)
    (here_for place (owned c.legs.self.scope) c.legs.invariant.scope c.in-Some.leg (sym c.has.ensures ∙ c.if-has.true))
    c.give.new.self c.give.ensures.noted (c.give.ensures.scope ∙ c.legs.invariant.scope) c.legs.self.last c.legs.invariant.last
    c.give.result c.give.ensures.gives c.give.ensures.damaged
    c.legs_stay_where_days_never_fall.ensures c.the_legs_are_in_the_order_of_days.ensures

pub returns-then-has-clause-rows : goal.returns-then-has-clause-rows
returns-then-has-clause-rows g c =
    let place = c.args.self.now in
    row_by place c.legs.self.noted (state g.S.Store c.args.conn.now) (state g.S.Store c.legs.conn) (state g.S.Store c.next.new.conn)
    c.legs.invariant.went c.next.new.self c.in-Some.leg (rw c.in-Some.is at c.in_ok-leg.ensures.steps)
    (here_for place (owned c.legs.self.scope) c.legs.invariant.scope c.in-Some.leg (sym c.has.ensures ∙ c.if-has.true))
    c.give.new.self c.give.ensures.noted (c.give.ensures.scope ∙ c.legs.invariant.scope) c.legs.self.last c.legs.invariant.last
    (rw c.in-Some.is at c.in_ok-leg.ensures.rows) c.give.result c.give.ensures.gives

pub returns-then-has-clause-left : goal.returns-then-has-clause-left
returns-then-has-clause-left g c =
    let place = c.args.self.now in
    left_by place c.legs.self.noted (state g.S.Store c.args.conn.now) (state g.S.Store c.legs.conn) (state g.S.Store c.next.new.conn)
    c.legs.invariant.went c.next.new.self c.in-Some.leg (rw c.in-Some.is at c.in_ok-leg.ensures.steps)
    (here_for place (owned c.legs.self.scope) c.legs.invariant.scope c.in-Some.leg (sym c.has.ensures ∙ c.if-has.true))
    c.give.new.self c.give.ensures.noted (c.give.ensures.scope ∙ c.legs.invariant.scope) c.legs.self.last c.legs.invariant.last
    c.give.result

-- ---- it isn't

pub legs-preserved : goal.legs-preserved
legs-preserved g c =
    let place = c.args.self.now in
    record {
      scope = c.legs.invariant.scope;
      last = c.legs.invariant.last;
      went = went_on (owned place.scope) place.noted c.legs.self.noted (state g.S.Store c.args.conn.now) (state g.S.Store c.legs.conn) (state g.S.Store c.next.new.conn)
          c.legs.invariant.went c.next.new.self c.in-Some.leg
          (apart_for place (owned c.legs.self.scope) c.legs.invariant.scope c.in-Some.leg (sym c.has.ensures ∙ c.if-has.false))
          (rw c.in-Some.is at c.in_ok-leg.ensures.steps) (rw c.in-Some.is at c.in_ok-leg.ensures.rows);
    }

-- ---- they are too many

pub returns-clause-steps : goal.returns-clause-steps
returns-clause-steps g c =
    ordered_full c.args.self.now _ c.legs.self.noted (state g.S.Store c.args.conn.now) (state g.S.Store c.legs.conn) c.legs.invariant.went

pub returns-clause-left : goal.returns-clause-left
returns-clause-left g c =
    full_left (owned c.args.self.now.scope) c.args.self.now.noted c.legs.self.noted (state g.S.Store c.args.conn.now) (state g.S.Store c.legs.conn) c.legs.invariant.went
