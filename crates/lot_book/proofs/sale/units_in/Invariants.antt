use Rattle.std.proofs.Common.{◌≡◌, ◌*◌, ◌≤◌, take}
use Rattle.std.specs.Prelude.{unsigned_abs}
use Rattle.lot_num.specs.Amount.{units_limit}
use Rattle.lot_booking.specs.Booking.{units_in}
use Rattle.lot_book.proofs.sale.units_in.Given as goal

-- the sum of the legs so far, each of them below the limit of units
abbrev pub invariant-loop-leg : goal.invariant-loop-leg
invariant-loop-leg l = record {
  sum : l.sum ≡ units_in (take l.leg-index l.legs);
  room : unsigned_abs l.sum ≤ l.leg-index * units_limit;
}
