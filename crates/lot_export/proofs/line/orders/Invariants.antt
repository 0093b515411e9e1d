-- The orders so far are those of the tables so far.
use Rattle.std.proofs.Common.{◌≡◌, take}
use Rattle.lot_export.specs.Lines.{orders_of}
use Rattle.lot_export.proofs.line.orders.Given as goal

abbrev pub invariant-loop-table : goal.invariant-loop-table
invariant-loop-table l = l.orders.items ≡ orders_of (take l.table-index l.tables)
