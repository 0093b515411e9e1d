use Rattle.std.proofs.Common.{◌≡◌, ◌≤◌, take}
use Rattle.lot_plot.specs.Lines.{gaps_of}
use Rattle.lot_plot.proofs.lines.gaps_of.Given as goal

-- how many there are among the first points
abbrev pub invariant-loop-point : goal.invariant-loop-point
invariant-loop-point l = (l.gaps ≡ gaps_of (take l.point-index l.points)) × (l.gaps ≤ l.point-index)
