use Rattle.std.proofs.Common.{◌≡◌, ◌≤◌, ◌++◌, length}
use Rattle.lot_inv.specs.Holding.{lot_rows, units_in}
use Rattle.lot_inv.specs.Inventory.{as_entries}
use Rattle.lot_inv.proofs.lots.Lots.list.Given as goal

-- the rows so far and those of the lots that are left are those before and those of all lots, and no more lots are left
-- than there were
abbrev pub invariant-loop-key : goal.invariant-loop-key
invariant-loop-key l = record {
  all : as_entries l.rows.items ++ units_in (lot_rows l.commodity l.key-iterator)
      ≡ as_entries l.initial.rows.items ++ units_in (lot_rows l.commodity l.self);
  left : length l.key-iterator ≤ length l.self;
}
