use Rattle.std.proofs.Common.{◌∙◌}
use Rattle.std.proofs.lemmas.Result.{err_from_is_err_and}
use Rattle.lot_report.proofs.EachLemmas.{each_written, each_stops}
use Rattle.lot_reconcile.specs.Table.{row_text}
use Rattle.lot_reconcile.proofs.rows.print_rows.Goals as goal

pub loop-commodity-preserved : goal.loop-commodity-preserved
loop-commodity-preserved g c = (
  each_written (row_text c.args.form) _ _ _ _ _ _ _
      c.loop-commodity.invariant.0 c.in-Some.ensures.steps c.in_ok-print_row.ensures.line,
  c.in_ok-print_row.ensures.none_failed ∙ c.loop-commodity.invariant.1,
)

pub returns-in_err-print_row-clause-rows : goal.returns-in_err-print_row-clause-rows
returns-in_err-print_row-clause-rows g c =
    let fault = err_from_is_err_and c.from_residual.result c.from_residual.ensures.1 in
    rw (fault.1, fault.2)
    (each_stops (row_text c.args.form) _ _ _ _ _ _ _ _
    c.loop-commodity.invariant.0 c.in-Some.ensures.steps c.in_err-print_row.ensures.line)
