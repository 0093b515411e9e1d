use Rattle.lot_sequence.specs.Order.{StandInOrder}
use Rattle.lot_sequence.proofs.order.first_against.Given as goal

abbrev pub invariant-loop-place : goal.invariant-loop-place
invariant-loop-place l = StandInOrder l.orders l.rows l.place
