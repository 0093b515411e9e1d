use Rattle.std.proofs.Common.{◌≡◌, take}
use Rattle.lot_plot.specs.Lines.{scale_of_points}
use Rattle.lot_plot.proofs.lines.scale_of.Given as goal

-- the scale of the first points
abbrev pub invariant-loop-point : goal.invariant-loop-point
invariant-loop-point l = l.scale ≡ scale_of_points (take l.point-index l.points)
