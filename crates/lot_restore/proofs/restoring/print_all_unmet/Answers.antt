-- A line for each is written.
use Rattle.std.proofs.Common.{◌∙◌, arith}
use Rattle.std.proofs.lemmas.Result.{err_from_is_err_and}
use Rattle.lot_report.proofs.EachLemmas.{each_fails, each_written, item_at}
use Rattle.lot_restore.specs.Lines.{unmet_line}
use Rattle.lot_restore.proofs.restoring.print_all_unmet.Goals as goal

pub loop-it-preserved : goal.loop-it-preserved
loop-it-preserved g c = (
  each_written (λ it. unmet_line it.now) _ _ _ _ _ _ _ c.loop-it.invariant.0
      (item_at c.args.unmet.now c.loop-it.it-index c.it-item.result (omega arith) c.it-item.is) c.in_ok-print_unmet.ensures.bytes,
  c.in_ok-print_unmet.ensures.none_failed ∙ c.loop-it.invariant.1,
)

pub returns-in_err-print_unmet-clause-bytes : goal.returns-in_err-print_unmet-clause-bytes
returns-in_err-print_unmet-clause-bytes g c =
    let fault = err_from_is_err_and c.from_residual.result c.from_residual.ensures.1 in
    rw (fault.1, fault.2)
    (each_fails (λ it. unmet_line it.now) _ _ _ _ _ _ _ _ c.loop-it.invariant.0
    (item_at c.args.unmet.now c.loop-it.it-index c.it-item.result (omega arith) c.it-item.is) c.in_err-print_unmet.ensures.bytes c.in_err-print_unmet.ensures.fault)
