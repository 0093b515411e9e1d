use Rattle.std.proofs.Common.{◌≡◌, ◌++◌, filter}
use Rattle.lot_cost.specs.CostSpec.{fits}
use Rattle.lot_inv.specs.declared.lot.Lot.{Lot}
use Rattle.lot_inv.specs.Holding.{listed}
use Rattle.lot_inv.proofs.lots.Lots.matching.Given as goal

-- the fitting lots so far and those of what is left are those of all
abbrev pub invariant-loop-key : goal.invariant-loop-key
invariant-loop-key l =
    l.fitting.items ++ filter (λ (lot : Lot). fits l.spec lot.key) (listed l.key-iterator)
    ≡ filter (λ (lot : Lot). fits l.spec lot.key) (listed l.self)
