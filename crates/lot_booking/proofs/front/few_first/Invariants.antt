use Rattle.std.proofs.Common.{◌++◌, ◌≤◌, IsPermutation}
use Rattle.lot_booking.specs.Front.{Lead, is_earlier}
use Rattle.lot_booking.proofs.front.few_first.Given as goal

-- the lots that were taken out are of all lots those that come first, in their order
abbrev pub invariant-loop : goal.invariant-loop
invariant-loop g l = record {
  same : IsPermutation l.fn.lots.items (l.front.items ++ l.lots.items);
  lead : Lead (is_earlier g.O.LotOrder.before) l.front.items l.lots.items;
  within : l.left ≤ l.wanted;
}
