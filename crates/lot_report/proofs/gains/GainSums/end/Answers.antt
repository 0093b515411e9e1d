use Rattle.lot_report.proofs.GainLemmas.{none_behind, totals_behind}
use Rattle.lot_report.proofs.gains.GainSums.end.Goals as goal

pub returns-then-self-clause-lines : goal.returns-then-self-clause-lines
returns-then-self-clause-lines g c = none_behind _ _ _ _ _ c.if-self.true c.print_line.ensures.bytes

pub returns-clause-lines : goal.returns-clause-lines
returns-clause-lines g c = totals_behind _ _ _ _ _ c.if-self.false c.print.ensures.lines
