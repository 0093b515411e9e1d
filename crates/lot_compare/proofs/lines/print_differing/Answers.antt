use Rattle.std.proofs.Common.{◌∙◌}
use Rattle.std.proofs.lemmas.Result.{err_from_is_err_and}
use Rattle.lot_compare.proofs.LineLemmas.{lines_more, lines_stop}
use Rattle.lot_compare.proofs.lines.print_differing.Goals as goal

pub loop-subject-preserved : goal.loop-subject-preserved
loop-subject-preserved g c = (
  lines_more c.args.kind _ _ _ _ _ _ _ c.loop-subject.invariant.0 c.in-Some.ensures.steps c.in_ok-print_if_differing.ensures.lines,
  c.in_ok-print_if_differing.ensures.none_failed ∙ c.loop-subject.invariant.1,
)

pub returns-in_err-print_if_differing-clause-lines : goal.returns-in_err-print_if_differing-clause-lines
returns-in_err-print_if_differing-clause-lines g c =
    let fault = err_from_is_err_and c.from_residual.result c.from_residual.ensures.1 in
    rw (fault.1, fault.2)
    (lines_stop c.args.kind _ _ _ _ _ _ _ _ c.loop-subject.invariant.0 c.in-Some.ensures.steps c.in_err-print_if_differing.ensures.lines)
