use Rattle.std.proofs.Common.{◌≡◌, ◌≤◌, length}
use Rattle.lot_inv.specs.Holding.{with_lots}
use Rattle.lot_inv.specs.Inventory.{nothing}
use Rattle.lot_inv.proofs.inventory.Holding.only_lots.Given as goal

-- the inventory so far with what is left is that of all, and no more is left than there was
abbrev pub invariant-loop-key : goal.invariant-loop-key
invariant-loop-key l = record {
  all : with_lots l.lots l.commodity l.key-iterator ≡ with_lots nothing l.commodity l.self.lots;
  left : length l.key-iterator ≤ length l.self.lots;
}
