use Rattle.std.proofs.lemmas.Result.{err_from_is_err_and}
use Rattle.lot_report.proofs.HoldingLemmas.{nothing_held, totals_cut, totals_written}
use Rattle.lot_report.proofs.OutputLemmas.{none_then}
use Rattle.lot_report.proofs.holdings.HoldingSums.end.Goals as goal

pub returns-then-self-clause-lines : goal.returns-then-self-clause-lines
returns-then-self-clause-lines g c = nothing_held _ _ _ _ _ _ c.if-self.true c.print_line.ensures.bytes

pub returns-clause-lines : goal.returns-clause-lines
returns-clause-lines g c = totals_written _ _ _ _ _ _ tt _ c.if-self.false c.in_ok-print.ensures.lines c.print-2.ensures.lines

pub returns-in_err-print-clause-lines : goal.returns-in_err-print-clause-lines
returns-in_err-print-clause-lines g c =
    let fault = err_from_is_err_and c.from_residual.result c.from_residual.ensures.1 in
    rw (fault.1, fault.2) (totals_cut _ _ _ _ _ _ c.if-self.false c.in_err-print.ensures.lines)

pub returns-clause-none_failed : goal.returns-clause-none_failed
returns-clause-none_failed g c = none_then c.print-2.result _ _ _ c.in_ok-print.ensures.none_failed c.print-2.ensures.none_failed
