use Rattle.std.proofs.Common.{◌≡◌, ◌+◌, ◌*◌, ◌≤◌, length, ◌+ℤ◌}
use Rattle.std.specs.Prelude.{◌^◌, unsigned_abs}
use Rattle.std.specs.Map.{values_of}
use Rattle.lot_num.specs.Amount.{units_limit}
use Rattle.lot_num.specs.Sum.{sum_of}
use Rattle.lot_inv.specs.Holding.{units_in}
use Rattle.lot_inv.proofs.lots.Lots.total.Given as goal

-- the sum so far and that of what is left are the whole sum, and there is room for what is left
abbrev pub invariant-loop-lot : goal.invariant-loop-lot
invariant-loop-lot l = record {
  sum : l.total +ℤ sum_of (values_of (units_in l.lot-iterator)) ≡ sum_of (values_of (units_in l.self));
  room : unsigned_abs l.total + length l.lot-iterator * units_limit ≤ 2 ^ 63 * units_limit;
}
