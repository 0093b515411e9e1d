use Rattle.std.proofs.Common.{◌∙◌}
use Rattle.std.proofs.lemmas.Result.{err_from_is_err_and}
use Rattle.lot_report.proofs.EachLemmas.{each_written, each_stops}
use Rattle.lot_activity.specs.Table.{row_text, shown}
use Rattle.lot_activity.proofs.rows.print_rows.Goals as goal

pub loop-key-preserved : goal.loop-key-preserved
loop-key-preserved g c = (
  each_written (λ row. row_text c.args.form (shown row)) _ _ _ _ _ _ _
      c.loop-key.invariant.0 c.in-Some.ensures.steps c.in_ok-print_row.ensures.line,
  c.in_ok-print_row.ensures.none_failed ∙ c.loop-key.invariant.1,
)

pub returns-in_err-print_row-clause-rows : goal.returns-in_err-print_row-clause-rows
returns-in_err-print_row-clause-rows g c =
    let fault = err_from_is_err_and c.from_residual.result c.from_residual.ensures.1 in
    rw (fault.1, fault.2)
    (each_stops (λ row. row_text c.args.form (shown row)) _ _ _ _ _ _ _ _
    c.loop-key.invariant.0 c.in-Some.ensures.steps c.in_err-print_row.ensures.line)
