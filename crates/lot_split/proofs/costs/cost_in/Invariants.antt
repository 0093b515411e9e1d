use Rattle.std.proofs.Common.{◌≡◌, ◌≤◌, ◌*◌, take}
use Rattle.std.specs.Prelude.{unsigned_abs}
use Rattle.lot_num.specs.Amount.{rate_limit, units_limit}
use Rattle.lot_split.specs.Lots.{cost_in}
use Rattle.lot_split.proofs.costs.cost_in.Given as goal

-- what the lots so far cost in the currency
abbrev pub invariant-loop-lot : goal.invariant-loop-lot
invariant-loop-lot l = record {
  sum : l.sum ≡ cost_in l.currency (take l.lot-index l.lots);
  bound : unsigned_abs l.sum ≤ l.lot-index * (units_limit * rate_limit);
}
