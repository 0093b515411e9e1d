use Rattle.lot_recall.proofs.WantedLemmas.{key_row, key_step, order_row, order_step}
use Rattle.sqlite.specs.Held.{state}
use Rattle.lot_recall.proofs.register.RegisterPlacePlace.next.Goals as goal

pub returns-in-AtKeys-clause-steps : goal.returns-in-AtKeys-clause-steps
returns-in-AtKeys-clause-steps g c = rw c.in-AtKeys.is
    (key_step _ _ (state g.S.Store c.args.conn.now) (state g.S.Store c.next.new.conn) c.next.result c.next.ensures.steps)

pub returns-in-AtKeys-clause-rows : goal.returns-in-AtKeys-clause-rows
returns-in-AtKeys-clause-rows g c = rw c.in-AtKeys.is
    (key_row _ _ (state g.S.Store c.args.conn.now) (state g.S.Store c.next.new.conn) c.next.result c.next.ensures.rows)

pub returns-in-InOrder-clause-steps : goal.returns-in-InOrder-clause-steps
returns-in-InOrder-clause-steps g c = rw c.in-InOrder.is
    (order_step _ _ (state g.S.Store c.args.conn.now) (state g.S.Store c.next-in-InOrder.new.conn) c.next-in-InOrder.result c.next-in-InOrder.ensures.steps)

pub returns-in-InOrder-clause-rows : goal.returns-in-InOrder-clause-rows
returns-in-InOrder-clause-rows g c = rw c.in-InOrder.is
    (order_row _ _ (state g.S.Store c.args.conn.now) (state g.S.Store c.next-in-InOrder.new.conn) c.next-in-InOrder.result c.next-in-InOrder.ensures.rows)
