use Rattle.std.proofs.Common.{◌≡◌, Err, Ok, false, true, option_map, refl, rules}
use Rattle.std.proofs.lemmas.Result.{err_from_is_err_and}
use Rattle.sqlite.specs.Held.{state}
use Rattle.lot_table.specs.declared.fault.Fault.{Fault}
use Rattle.lot_table.specs.declared.fault.Fault.TheVariants.{Damaged, Device}
use Rattle.lot_walk.specs.Holdings.{AreAllHoldingRows, AreHoldings, IsAnyHolding, IsBehindHoldingRows, IsBehindHoldings, is_lot_next, lot_holding, shown_holding}
use Rattle.lot_walk.proofs.HoldingBeginLemmas.{begin_failed, begun_went}
use Rattle.lot_walk.proofs.HoldingRowLemmas.{begun_keeps, lot_rows, plain_rows}
use Rattle.lot_walk.proofs.HoldingStepLemmas.{lot_steps, lot_unread, plain_steps}
use Rattle.lot_rows.proofs.StateLemmas.{survives_same}
use Rattle.lot_walk.proofs.PlaceLemmas.{rows_after, steps_after}
use Rattle.lot_walk.proofs.holdings.HoldingsPlacePlace.next.Goals as goal

pub returns-in_err-begin-clause-steps : goal.returns-in_err-begin-clause-steps
returns-in_err-begin-clause-steps g c =
    let fault = err_from_is_err_and c.from_residual.result c.from_residual.ensures.1 in
    rw (fault.1, fault.2)
    (begin_failed c.args.self.now c.begin.new.self (state g.S.Store c.args.conn.now) (state g.S.Store c.begin.new.conn) c.in_err-begin.field-0.0 c.in_err-begin.ensures.begins)

pub returns-then-not-is_lot_next-clause-steps : goal.returns-then-not-is_lot_next-clause-steps
returns-then-not-is_lot_next-clause-steps g c =
    let mid = c.begin.new.self in
    let old = state g.S.Store c.args.conn.now in
    let now = state g.S.Store c.begin.new.conn in
    let begins = c.in_ok-begin.ensures.begins in
    let e : is_lot_next mid.plain mid.lot ≡ false = search rules in
    steps_after IsBehindHoldings shown_holding IsAnyHolding AreHoldings Damaged Device c.args.self.now mid c.next_plain.new.self old now now (Ok c.next_plain.result)
    (begun_went c.args.self.now mid old now begins)
    (plain_steps mid c.next_plain.new.self now c.next_plain.result begins.begun e c.next_plain.ensures.begun c.next_plain.ensures.lot c.next_plain.ensures.lots c.next_plain.ensures.takes)

pub returns-in_err-next-clause-steps : goal.returns-in_err-next-clause-steps
returns-in_err-next-clause-steps g c =
    let mid = c.begin.new.self in
    let old = state g.S.Store c.args.conn.now in
    let now = state g.S.Store c.begin.new.conn in
    let new = state g.S.Store c.next.new.conn in
    let begins = c.in_ok-begin.ensures.begins in
    let e : is_lot_next mid.plain mid.lot ≡ true = search rules in
    let fault = err_from_is_err_and c.from_residual-in_err-next.result c.from_residual-in_err-next.ensures.1 in
    rw (fault.1, fault.2)
    (steps_after IsBehindHoldings shown_holding IsAnyHolding AreHoldings Damaged Device c.args.self.now mid _ old now new (Err c.in_err-next.field-0.0)
    (begun_went c.args.self.now mid old now begins)
    (lot_unread mid _ now new c.in_err-next.field-0.0 begins.begun e c.in_err-next.ensures.steps))

pub returns-clause-steps : goal.returns-clause-steps
returns-clause-steps g c =
    let mid = c.begin.new.self in
    let old = state g.S.Store c.args.conn.now in
    let now = state g.S.Store c.begin.new.conn in
    let new = state g.S.Store c.next.new.conn in
    let begins = c.in_ok-begin.ensures.begins in
    let e : is_lot_next mid.plain mid.lot ≡ true = search rules in
    let is : c.map.result ≡ option_map lot_holding mid.lot = search rules in
    steps_after IsBehindHoldings shown_holding IsAnyHolding AreHoldings Damaged Device c.args.self.now mid _ old now new (Ok c.map.result)
    (begun_went c.args.self.now mid old now begins)
    (lot_steps mid _ now new c.in_ok-next.next c.map.result begins.begun e refl refl refl c.replace.ensures.after c.in_ok-next.ensures.steps is)

pub returns-then-not-is_lot_next-clause-rows : goal.returns-then-not-is_lot_next-clause-rows
returns-then-not-is_lot_next-clause-rows g c =
    let mid = c.begin.new.self in
    let old = state g.S.Store c.args.conn.now in
    let now = state g.S.Store c.begin.new.conn in
    let begins = c.in_ok-begin.ensures.begins in
    let e : is_lot_next mid.plain mid.lot ≡ false = search rules in
    rows_after IsBehindHoldingRows Fault shown_holding AreAllHoldingRows c.args.self.now mid c.next_plain.new.self old now now (Ok c.next_plain.result) begins.same (survives_same now _)
    (begun_keeps c.args.self.now mid old now c.in_ok-begin.ensures.rows)
    (plain_rows mid c.next_plain.new.self now c.next_plain.result begins.begun e c.next_plain.ensures.begun c.next_plain.ensures.lot c.next_plain.ensures.lots c.next_plain.ensures.takes)

pub returns-clause-rows : goal.returns-clause-rows
returns-clause-rows g c =
    let mid = c.begin.new.self in
    let old = state g.S.Store c.args.conn.now in
    let now = state g.S.Store c.begin.new.conn in
    let new = state g.S.Store c.next.new.conn in
    let begins = c.in_ok-begin.ensures.begins in
    let e : is_lot_next mid.plain mid.lot ≡ true = search rules in
    let is : c.map.result ≡ option_map lot_holding mid.lot = search rules in
    rows_after IsBehindHoldingRows Fault shown_holding AreAllHoldingRows c.args.self.now mid _ old now new (Ok c.map.result) begins.same c.in_ok-next.ensures.steps.crash
    (begun_keeps c.args.self.now mid old now c.in_ok-begin.ensures.rows)
    (lot_rows mid _ now new c.in_ok-next.next c.map.result begins.begun e refl refl refl c.replace.ensures.after c.in_ok-next.ensures.steps is)
