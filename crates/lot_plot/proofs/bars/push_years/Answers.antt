use Rattle.std.proofs.Common.{◌≡◌, ◌++◌, suc, filter, ap, ◌∙◌, arith}
use Rattle.std.specs.List.{flat_map, range_with_len}
use Rattle.std.specs.String.{string_bytes}
use Rattle.lot_plot.proofs.PieceLemmas.{one_more_written}
use Rattle.lot_plot.specs.Bars.{is_written, year_html}
use Rattle.lot_plot.proofs.bars.push_years.Goals as goal

pub loop-at-preserved : goal.loop-at-preserved
loop-at-preserved c =
    one_more_written (year_html c.args.years) (is_written c.args.years) c.loop-at.at (string_bytes c.args.text.now) _ _ c.loop-at.invariant
    c.in_ok-push_year_at.ensures

pub returns : goal.returns
returns c =
    let all : c.loop-at.at ≡ suc c.args.years.more = omega (arith, c.from-at-end.ensures) in
    c.loop-at.invariant
    ∙ ap (λ n. string_bytes c.args.text.now ++ flat_map (year_html c.args.years) (filter (is_written c.args.years) (range_with_len 0 n))) all
