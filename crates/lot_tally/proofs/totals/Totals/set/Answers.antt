use Rattle.lot_report.proofs.SumLemmas.{sums_under_copy}
use Rattle.lot_tally.proofs.totals.Totals.set.Goals as goal

pub returns-clause-sums : goal.returns-clause-sums
returns-clause-sums c amounts amount sums is =
    sums_under_copy amounts _ _ _ _ _ _ sums c.in_ok-insert.ensures.updates.0 c.in_ok-insert.ensures.ordered
    c.in_ok-copy.ensures is
