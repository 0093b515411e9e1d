use Rattle.std.proofs.Common.{ℕ, List, drop}
use Rattle.lot_plot.specs.declared.lines.MonthPoint.{MonthPoint}
use Rattle.std.specs.String.{string_bytes}
use Rattle.lot_page_report.proofs.GoesLemmas.{Goes}
use Rattle.lot_page_report.specs.Sections.{AreMonthRows}
use Rattle.lot_page_report.proofs.months.push_month_rows.Given as goal

-- what is appended goes on with what is left
abbrev pub invariant-loop-point : goal.invariant-loop-point
invariant-loop-point l =
    Goes {L = ℕ × List MonthPoint} (λ left text. AreMonthRows left.0 left.1 text) (l.fn.first.0, l.points) (l.month.0, drop l.point-index l.points)
    (string_bytes l.initial.text) (string_bytes l.text)
