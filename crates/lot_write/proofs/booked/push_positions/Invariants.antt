use Rattle.std.proofs.Common.{◌≡◌, ◌++◌, take}
use Rattle.lot_view.specs.View.{known}
use Rattle.lot_write.specs.Writes.{positions_written}
use Rattle.lot_write.proofs.booked.push_positions.Given as goal

abbrev pub invariant-loop-leg : goal.invariant-loop-leg
invariant-loop-leg l = l.writes.items ≡ l.fn.writes.items ++ positions_written (known l.view) l.change (take l.leg-index l.legs)
