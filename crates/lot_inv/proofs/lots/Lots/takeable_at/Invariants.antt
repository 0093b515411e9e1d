use Rattle.std.proofs.Common.{◌≡◌, ◌++◌}
use Rattle.lot_inv.specs.Holding.{listed, takeable_lots}
use Rattle.lot_inv.specs.Inventory.{with_number}
use Rattle.lot_inv.proofs.lots.Lots.takeable_at.Given as goal

-- the lots so far and those of what is left are those of all
abbrev pub invariant-loop-key : goal.invariant-loop-key
invariant-loop-key l =
    l.lots.items ++ takeable_lots l.units (with_number l.number l.spec) (listed l.key-iterator)
    ≡ takeable_lots l.units (with_number l.number l.spec) (listed l.self)
