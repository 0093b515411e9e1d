-- The tables so far have no header.
use Rattle.std.proofs.Common.{◌≡◌, map, take, None}
use Rattle.lot_profile.specs.declared.table.Table.{Table}
use Rattle.lot_sheet.specs.Header.{Standing}
use Rattle.lot_sheet.proofs.header.at_start.Given as goal

abbrev pub invariant-loop-table : goal.invariant-loop-table
invariant-loop-table l = l.made.items ≡ map (λ (table : Table). let s : Standing = (table, None) in s) (take l.table-index l.tables)
