use Rattle.std.proofs.Common.{◌≡◌, ◌++◌, take}
use Rattle.lot_booking.proofs.front.add_copies.Given as goal

-- the others so far stand behind the lots
abbrev pub invariant-loop-other : goal.invariant-loop-other
invariant-loop-other l = l.lots.items ≡ l.fn.lots.items ++ take l.other-index l.others
