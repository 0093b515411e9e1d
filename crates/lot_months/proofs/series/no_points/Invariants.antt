use Rattle.std.proofs.Common.{◌≡◌}
use Rattle.lot_months.specs.Ends.{no_points}
use Rattle.lot_months.proofs.series.no_points.Given as goal

-- so many points so far
abbrev pub invariant-loop : goal.invariant-loop
invariant-loop l = l.points.items ≡ no_points l.counter
