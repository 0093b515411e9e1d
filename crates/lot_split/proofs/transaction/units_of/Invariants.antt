use Rattle.std.proofs.Common.{◌≡◌, ◌≤◌, ◌*◌, take}
use Rattle.std.specs.Prelude.{unsigned_abs}
use Rattle.lot_num.specs.Amount.{units_limit}
use Rattle.lot_split.specs.Lots.{held_of}
use Rattle.lot_split.proofs.transaction.units_of.Given as goal

-- the units of the lots so far
abbrev pub invariant-loop-lot : goal.invariant-loop-lot
invariant-loop-lot l = record {
  sum : l.sum ≡ held_of (take l.lot-index l.lots);
  bound : unsigned_abs l.sum ≤ l.lot-index * units_limit;
}
