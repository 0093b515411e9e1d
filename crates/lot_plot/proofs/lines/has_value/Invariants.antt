use Rattle.std.proofs.Common.{◌≡◌, drop}
use Rattle.lot_plot.specs.Lines.{has_value}
use Rattle.lot_plot.proofs.lines.has_value.Given as goal

-- what is left decides
abbrev pub invariant-loop-point : goal.invariant-loop-point
invariant-loop-point l = has_value l.line (drop l.point-index l.points) ≡ has_value l.line l.points
