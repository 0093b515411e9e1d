use Rattle.lot_plot.proofs.PlotLemmas.{years_are}
use Rattle.lot_plot.proofs.bars.years_of.Goals as goal

pub returns-in-Some-Some : goal.returns-in-Some-Some
returns-in-Some-Some c =
    years_are c.args.bars.now c.in-Some-Some.first.now c.in-Some-Some.last.now c.saturating_sub.result c.in-Some-Some.ensures.value
    c.in-Some-Some.ensures'.value c.saturating_sub.ensures
