use Rattle.std.proofs.Common.{◌≡◌, All, map, take}
use Rattle.lot_table.proofs.row.read_all.Given as goal

abbrev pub invariant-rows : goal.invariant-rows
invariant-rows g l = (take l.row-index l.rows ≡ map g.R.TableRow.encode l.found.items) × All g.R.TableRow.IsGood l.found.items
