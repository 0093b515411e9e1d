use Rattle.std.proofs.Common.{◌≡◌, ◌++◌}
use Rattle.lot_migrate.specs.Put.{opening_writes}
use Rattle.lot_migrate.specs.Read.{AreNumbers}
use Rattle.lot_migrate.proofs.fill.writes_of.Given as goal

-- the openings so far are written, and those left have numbers of their column
abbrev pub invariant-each : goal.invariant-each
invariant-each l =
    (l.writes.items ++ opening_writes l.it-iterator.rest.items ≡ opening_writes l.fn.openings.items)
    × AreNumbers l.it-iterator.rest.items
