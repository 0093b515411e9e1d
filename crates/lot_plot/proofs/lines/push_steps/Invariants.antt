use Rattle.std.proofs.Common.{◌≡◌, ◌++◌, false, drop, length}
use Rattle.std.specs.String.{string_bytes}
use Rattle.lot_plot.specs.Lines.{steps_from, values_of}
use Rattle.lot_plot.proofs.lines.push_steps.Given as goal

-- what is appended and what is left are all steps
abbrev pub invariant-loop-at : goal.invariant-loop-at
invariant-loop-at l =
    string_bytes l.text ++ steps_from l.scale (length l.points) l.is_drawing l.at (values_of l.line (drop l.at l.points))
    ≡ string_bytes l.initial.text ++ steps_from l.scale (length l.points) false 0 (values_of l.line l.points)
