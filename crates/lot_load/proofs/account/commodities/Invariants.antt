-- So far the commodities of the first rows are found.
use Rattle.std.specs.Prelude.{◌≡◌, map, take}
use Rattle.lot_rows.specs.declared.allowed.AllowedRow.{AllowedRow}
use Rattle.lot_load.proofs.account.commodities.Given as goal

abbrev pub invariant-loop-row : goal.invariant-loop-row
invariant-loop-row l = l.found.items ≡ map (λ (row : AllowedRow). row.commodity) (take l.row-index l.rows)
