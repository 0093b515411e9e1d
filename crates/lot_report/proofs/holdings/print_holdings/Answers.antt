-- The rows are taken and written one after another, then the lines behind them.
use Rattle.std.proofs.Common.{sym, ◌∙◌}
use Rattle.std.proofs.lemmas.List.{nil_from_length}
use Rattle.std.proofs.lemmas.Result.{err_from_is_err_and}
use Rattle.lot_report.proofs.WholeLemmas.{row_stops, row_taken, whole_cut, whole_written}
use Rattle.lot_report.proofs.holdings.print_holdings.Goals as goal

pub loop-holding-preserved : goal.loop-holding-preserved
loop-holding-preserved g c = record {
  fed = row_taken _ _ _ c.in-Some.holding c.loop-holding.progress c.row.new.self _ _ _ tt c.loop-holding.invariant.fed c.in-Some.ensures.steps.0
      c.in_ok-row.ensures.takes;
  none_failed = c.in_ok-row.ensures.none_failed ∙ c.loop-holding.invariant.none_failed;
}

pub returns-in_err-row-clause-report : goal.returns-in_err-row-clause-report
returns-in_err-row-clause-report g c =
    let fault = err_from_is_err_and c.from_residual.result c.from_residual.ensures.1 in
    rw (fault.1, fault.2)
    (row_stops _ _ _ c.in-Some.holding c.loop-holding.progress c.row.new.self _ _ _ c.in_err-row.field-0.0 c.loop-holding.invariant.fed
    c.in-Some.ensures.steps.0 c.in_err-row.ensures.takes)

pub returns-in_err-end-clause-report : goal.returns-in_err-end-clause-report
returns-in_err-end-clause-report g c =
    let fault = err_from_is_err_and c.from_residual-in_err-end.result c.from_residual-in_err-end.ensures.1 in
    rw (fault.1, fault.2)
    (whole_cut _ _ c.loop-holding.progress _ _ _ c.in_err-end.field-0.0 c.loop-holding.invariant.fed
    (nil_from_length _ (sym c.loop-holding.holding-iterator.rest.ok.0 ∙ c.in-None.ensures.steps.0)) c.in_err-end.ensures.lines)

pub returns-clause-report : goal.returns-clause-report
returns-clause-report g c =
    whole_written _ _ c.loop-holding.progress _ _ _ tt c.loop-holding.invariant.fed
    (nil_from_length _ (sym c.loop-holding.holding-iterator.rest.ok.0 ∙ c.in-None.ensures.steps.0)) c.in_ok-end.ensures.lines
