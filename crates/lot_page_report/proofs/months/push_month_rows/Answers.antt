use Rattle.std.proofs.Common.{ℕ, List, arith, drop, refl}
use Rattle.std.specs.String.{string_bytes}
use Rattle.lot_plot.specs.declared.lines.MonthPoint.{MonthPoint}
use Rattle.lot_report.proofs.EachLemmas.{item_at}
use Rattle.std.proofs.lemmas.List.{drop_all}
use Rattle.lot_page_report.proofs.GoesLemmas.{goes_begin, goes_end, goes_more}
use Rattle.lot_page_report.specs.Sections.{AreMonthRows}
use Rattle.lot_cells.specs.Months.{month_html}
use Rattle.lot_page_report.proofs.months.push_month_rows.Goals as goal

pub loop-point-init : goal.loop-point-init
loop-point-init c = goes_begin {L = ℕ × List MonthPoint} (λ left text. AreMonthRows left.0 left.1 text) (c.args.first.0, c.args.points.now) (string_bytes c.args.text.now)

pub loop-point-preserved : goal.loop-point-preserved
loop-point-preserved c =
    goes_more {L = ℕ × List MonthPoint} (λ left text. AreMonthRows left.0 left.1 text) _ (c.loop-point.month.0, drop c.loop-point.point-index c.args.points.now) _ _ _ _ (month_html c.loop-point.month c.point-item.result)
    (λ rest are. rw (item_at c.args.points.now c.loop-point.point-index c.point-item.result (omega arith) c.point-item.is)
    (c.loop-point.month, refl, rest, rw c.later-month.ensures at are, refl)) c.in_ok-push_month_row.ensures c.loop-point.invariant

pub returns : goal.returns
returns c =
    goes_end {L = ℕ × List MonthPoint} (λ left text. AreMonthRows left.0 left.1 text) _ (c.loop-point.month.0, drop c.loop-point.point-index c.args.points.now) _ _
    (rw (drop_all c.loop-point.point-index c.args.points.now (omega arith)) refl) c.loop-point.invariant
