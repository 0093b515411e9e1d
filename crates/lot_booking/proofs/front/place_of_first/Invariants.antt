use Rattle.std.specs.List.{IsFirstBest}
use Rattle.lot_booking.specs.Front.{is_earlier}
use Rattle.lot_booking.proofs.front.place_of_first.Given as goal

-- the lot at that place comes first among those so far
abbrev pub invariant-loop-place : goal.invariant-loop-place
invariant-loop-place g l = IsFirstBest (is_earlier g.O.LotOrder.before) l.lots l.place l.first
