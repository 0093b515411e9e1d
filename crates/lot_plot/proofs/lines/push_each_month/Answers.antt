use Rattle.std.specs.String.{string_bytes}
use Rattle.lot_plot.proofs.PieceLemmas.{one_more_written}
use Rattle.lot_plot.specs.Lines.{month_html, is_written_month}
use Rattle.lot_plot.proofs.lines.push_each_month.Goals as goal

pub loop-at-preserved : goal.loop-at-preserved
loop-at-preserved c =
    one_more_written (month_html c.args.first.0 c.args.count) (is_written_month c.args.count) c.loop-at.at (string_bytes c.args.text.now) _ _ c.loop-at.invariant
    c.in_ok-push_month_at.ensures
