use Rattle.std.proofs.Common.{◌∙◌, ℕ, List}
use Rattle.std.specs.Prelude.{ℤ, codes}
use Rattle.std.proofs.lemmas.Result.{err_from_is_err_and}
use Rattle.lot_report.specs.Printed.{total_of}
use Rattle.lot_report.proofs.EachLemmas.{each_written, each_stops}
use Rattle.lot_tally.proofs.totals.Totals.print.Goals as goal

pub loop-currency-preserved : goal.loop-currency-preserved
loop-currency-preserved g c = (
  each_written (λ (sum : List ℕ × ℤ). total_of (codes "gain") sum.0 sum.1) _ _ _ _ _ _ _
      c.loop-currency.invariant.0 c.in-Some.ensures.steps c.in_ok-print_total.ensures.line,
  c.in_ok-print_total.ensures.none_failed ∙ c.loop-currency.invariant.1,
)

pub returns-in_err-print_total-clause-lines : goal.returns-in_err-print_total-clause-lines
returns-in_err-print_total-clause-lines g c =
    let fault = err_from_is_err_and c.from_residual.result c.from_residual.ensures.1 in
    rw (fault.1, fault.2)
    (each_stops (λ (sum : List ℕ × ℤ). total_of (codes "gain") sum.0 sum.1) _ _ _ _ _ _ _ _
    c.loop-currency.invariant.0 c.in-Some.ensures.steps c.in_err-print_total.ensures.line)
