use Rattle.std.proofs.Common.{◌≡◌, ◌*◌, ◌≤◌, take}
use Rattle.std.specs.Prelude.{unsigned_abs}
use Rattle.lot_num.specs.Amount.{rate_limit}
use Rattle.lot_inv.specs.Inventory.{held_in}
use Rattle.lot_book.specs.Gain.{cost_of}
use Rattle.lot_book.proofs.gain.cost.Given as goal

-- the cost of the legs so far, and no more than their units can weigh
abbrev pub invariant-loop-leg : goal.invariant-loop-leg
invariant-loop-leg l = record {
  sum : l.cost ≡ cost_of (take l.leg-index l.sale.legs);
  room : unsigned_abs l.cost ≤ held_in (take l.leg-index l.sale.legs) * rate_limit;
}
