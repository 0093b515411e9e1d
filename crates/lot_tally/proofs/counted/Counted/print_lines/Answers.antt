use Rattle.std.proofs.Common.{◌∙◌, sym}
use Rattle.std.proofs.lemmas.Bool.{true≢false}
use Rattle.std.proofs.lemmas.Result.{err_from_is_err_and}
use Rattle.lot_report.proofs.OutputLemmas.{none_then}
use Rattle.lot_tally.proofs.TextLemmas.{no_rows, rows_and_totals, rows_stop}
use Rattle.lot_tally.proofs.counted.Counted.print_lines.Goals as goal

pub returns-then-is_empty-clause-lines : goal.returns-then-is_empty-clause-lines
returns-then-is_empty-clause-lines g c =
    no_rows c.args.self.now.rows.entries c.args.self.now.totals.sums.entries _ _ _ (c.is_empty.ensures.0 c.if-is_empty.true) c.print_line.ensures.bytes

pub returns-in_err-print_rows-clause-lines : goal.returns-in_err-print_rows-clause-lines
returns-in_err-print_rows-clause-lines g c =
    let fault = err_from_is_err_and c.from_residual.result c.from_residual.ensures.1 in
    rw (fault.1, fault.2)
    (rows_stop c.args.self.now.rows.entries c.args.self.now.totals.sums.entries _ _ c.in_err-print_rows.field-0.0
    (λ none. true≢false (sym (c.is_empty.ensures.1 none) ∙ c.if-is_empty.false)) c.in_err-print_rows.ensures.rows)

pub returns-clause-lines : goal.returns-clause-lines
returns-clause-lines g c =
    rows_and_totals c.args.self.now.rows.entries c.args.self.now.totals.sums.entries _ _ _ _
    (λ none. true≢false (sym (c.is_empty.ensures.1 none) ∙ c.if-is_empty.false)) c.in_ok-print_rows.ensures.rows c.print.ensures.lines

pub returns-clause-none_failed : goal.returns-clause-none_failed
returns-clause-none_failed g c = none_then c.print.result _ _ _ c.in_ok-print_rows.ensures.none_failed c.print.ensures.none_failed
