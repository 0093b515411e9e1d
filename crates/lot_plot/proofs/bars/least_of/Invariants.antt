use Rattle.std.proofs.Common.{◌≡◌, fold, take}
use Rattle.lot_plot.specs.Bars.{first_gain}
use Rattle.lot_plot.specs.Plot.{lesser}
use Rattle.lot_plot.proofs.bars.least_of.Given as goal

-- the least of the first gain and of the first bars
abbrev pub invariant-loop-bar : goal.invariant-loop-bar
invariant-loop-bar l = l.least ≡ fold (λ gain bar. lesser gain bar.gain) (first_gain l.bars) (take l.bar-index l.bars)
