use Rattle.std.proofs.Common.{◌≡◌, take}
use Rattle.lot_split.specs.Lots.{currencies_of}
use Rattle.lot_split.proofs.costs.currencies_of.Given as goal

-- those of the lots so far
abbrev pub invariant-loop-lot : goal.invariant-loop-lot
invariant-loop-lot l = l.currencies ≡ currencies_of (take l.lot-index l.lots)
