use Rattle.std.proofs.lemmas.Result.{err_from_is_err_and}
use Rattle.lot_compare.proofs.LineLemmas.{lines_cut, lines_then}
use Rattle.lot_compare.proofs.comparison.print_both.Goals as goal

pub returns-clause-lines : goal.returns-clause-lines
returns-clause-lines g c =
    lines_then _ _ _ _ _ c.print_differing-2.result c.in_ok-print_differing.ensures.lines c.print_differing-2.ensures.lines

pub returns-in_err-print_differing-clause-lines : goal.returns-in_err-print_differing-clause-lines
returns-in_err-print_differing-clause-lines g c =
    let fault = err_from_is_err_and c.from_residual.result c.from_residual.ensures.1 in
    rw (fault.1, fault.2) (lines_cut _ _ _ _ c.in_err-print_differing.field-0.0 c.in_err-print_differing.ensures.lines)
