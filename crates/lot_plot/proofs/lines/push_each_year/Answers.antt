use Rattle.std.specs.String.{string_bytes}
use Rattle.lot_plot.proofs.PieceLemmas.{one_more_written}
use Rattle.lot_plot.specs.Lines.{year_html, is_written_year}
use Rattle.lot_plot.proofs.lines.push_each_year.Goals as goal

pub loop-at-preserved : goal.loop-at-preserved
loop-at-preserved c =
    one_more_written (year_html c.args.first.0 c.args.count) (is_written_year c.args.first.0 c.args.count) c.loop-at.at (string_bytes c.args.text.now) _ _ c.loop-at.invariant
    c.in_ok-push_year_at.ensures
