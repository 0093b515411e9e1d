use Rattle.std.proofs.Common.{Err, ap}
use Rattle.std.proofs.lemmas.Result.{err_from_is_err_and}
use Rattle.sqlite.specs.Held.{state}
use Rattle.lot_walk.proofs.SaleRowLemmas.{legs_refused, legs_told, legs_unmade, legs_unread}
use Rattle.lot_walk.proofs.gains.sale_of.Goals as goal

pub returns-in_err-rows : goal.returns-in_err-rows
returns-in_err-rows g c =
    let fault = err_from_is_err_and c.from_residual.result c.from_residual.ensures.1 in
    record {
      tells = rw (fault.1, fault.2)
          (legs_unread c.args.row (state g.S.Store c.args.conn.now) (state g.S.Store c.list_of.new.conn) c.in_err-rows.field-0.0 c.in_err-rows.ensures.lists);
    }

pub returns-in_err-legs : goal.returns-in_err-legs
returns-in_err-legs g c =
    let fault = err_from_is_err_and c.from_residual-in_err-legs.result c.from_residual-in_err-legs.ensures.1 in
    let refused = c.in_err-legs.ensures in
    record {
      tells = rw (fault.1, fault.2)
          (legs_refused c.args.row (state g.S.Store c.args.conn.now) (state g.S.Store c.list_of.new.conn) c.in_ok-rows.rows c.in_err-legs.field-0.0
          (λ e. refused.no_device (ap Err e)) (λ e legs are. (rw c.deref.ensures.value at refused.damaged) (ap Err e) legs) c.in_ok-rows.ensures.lists);
    }

pub returns-in-Some : goal.returns-in-Some
returns-in-Some g c =
    let made = rw c.units-units.ensures.value at c.in-Some.ensures in
    record {
      tells =
          legs_told c.args.row (state g.S.Store c.args.conn.now) (state g.S.Store c.list_of.new.conn) c.in_ok-rows.rows c.in_ok-legs.legs.items c.in-Some.sale
          (rw c.deref.ensures.value at c.in_ok-legs.ensures.ok) made.0 made.1 c.in_ok-rows.ensures.lists;
    }

pub returns : goal.returns
returns g c =
    record {
      tells =
          legs_unmade c.args.row (state g.S.Store c.args.conn.now) (state g.S.Store c.list_of.new.conn) c.in_ok-rows.rows c.in_ok-legs.legs.items
          (rw c.deref.ensures.value at c.in_ok-legs.ensures.ok) (rw c.units-units.ensures.value at c.in-None.ensures) c.in_ok-rows.ensures.lists;
    }
