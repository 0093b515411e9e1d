use Rattle.std.proofs.Common.{subst, sym}
use Rattle.lot_plot.specs.Bars.{IsBarsPlot}
use Rattle.lot_page_report.proofs.sums.plot_of.Goals as goal

pub returns : goal.returns
returns c =
    let (plot, is, written) = rw c.as_str.ensures.value at c.in_ok-push_bars.ensures in
    subst (λ text. IsBarsPlot c.args.currency.now c.args.bars.now text) (sym (rw c.new-plot.ensures.bytes at written)) is
