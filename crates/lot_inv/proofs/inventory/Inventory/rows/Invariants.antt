use Rattle.std.proofs.Common.{◌≡◌, ◌++◌}
use Rattle.std.specs.FinMap as finite
use Rattle.lot_inv.specs.Holding.{rows, units_in}
use Rattle.lot_inv.specs.Inventory.{as_entries}
use Rattle.lot_inv.proofs.inventory.Inventory.rows.Given as goal

-- the rows so far and those of what is left are those of all
abbrev pub invariant-loop-commodity : goal.invariant-loop-commodity
invariant-loop-commodity l = as_entries l.rows.items ++ units_in (rows l.commodity-iterator) ≡ finite.entries l.self.held
