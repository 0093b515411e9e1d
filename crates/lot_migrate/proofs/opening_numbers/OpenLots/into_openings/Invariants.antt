use Rattle.std.proofs.Common.{◌≡◌, ◌++◌}
use Rattle.std.specs.List.{filter_map}
use Rattle.lot_migrate.specs.LotOpenings.{row_of}
use Rattle.lot_migrate.proofs.opening_numbers.OpenLots.into_openings.Given as goal

-- the rows so far and those of what is left are all
abbrev pub invariant-loop-position : goal.invariant-loop-position
invariant-loop-position l =
    l.rows.items ++ filter_map row_of l.position-iterator ≡ filter_map row_of l.fn.self.lots.entries
