use Rattle.std.specs.String.{string_bytes}
use Rattle.std.proofs.Common.{arith}
use Rattle.lot_plot.proofs.PieceLemmas.{one_more_of}
use Rattle.lot_plot.specs.Bars.{bar_html}
use Rattle.lot_plot.proofs.bars.push_each_bar.Goals as goal

pub loop-bar-preserved : goal.loop-bar-preserved
loop-bar-preserved c =
    one_more_of (bar_html c.args.scale.now c.args.years) c.args.bars.now c.loop-bar.bar-index c.bar-item.result
    (string_bytes c.args.text.now) _ _ (omega arith) c.bar-item.is c.loop-bar.invariant c.in_ok-push_bar.ensures
