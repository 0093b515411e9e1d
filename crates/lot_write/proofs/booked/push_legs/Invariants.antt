use Rattle.std.proofs.Common.{◌≡◌, ◌++◌, take}
use Rattle.lot_write.specs.Writes.{legs_written}
use Rattle.lot_write.proofs.booked.push_legs.Given as goal

abbrev pub invariant-loop-leg : goal.invariant-loop-leg
invariant-loop-leg l = l.writes.items ≡ l.fn.writes.items ++ legs_written (take l.leg-index l.legs)
