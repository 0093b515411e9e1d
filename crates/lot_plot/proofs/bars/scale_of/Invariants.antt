use Rattle.std.proofs.Common.{◌≡◌, take}
use Rattle.lot_plot.specs.Bars.{scale_of_bars}
use Rattle.lot_plot.proofs.bars.scale_of.Given as goal

-- the scale of the first bars
abbrev pub invariant-loop-bar : goal.invariant-loop-bar
invariant-loop-bar l = l.scale ≡ scale_of_bars (take l.bar-index l.bars)
