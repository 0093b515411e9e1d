use Rattle.std.proofs.Common.{◌≡◌, fold, take}
use Rattle.lot_plot.specs.Bars.{first_gain}
use Rattle.lot_plot.specs.Plot.{greater}
use Rattle.lot_plot.proofs.bars.greatest_of.Given as goal

-- the greatest of the first gain and of the first bars
abbrev pub invariant-loop-bar : goal.invariant-loop-bar
invariant-loop-bar l = l.greatest ≡ fold (λ gain bar. greater gain bar.gain) (first_gain l.bars) (take l.bar-index l.bars)
