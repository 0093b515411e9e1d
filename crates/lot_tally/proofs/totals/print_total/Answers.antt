use Rattle.std.specs.Prelude.{codes}
use Rattle.lot_report.proofs.TotalLemmas.{total_printed}
use Rattle.lot_tally.proofs.totals.print_total.Goals as goal

pub returns-clause-line : goal.returns-clause-line
returns-clause-line g c = total_printed _ _ _ _ (codes "gain") _ _ c.in_ok-total.ensures c.print_line.ensures.bytes
