use Rattle.lot_plot.proofs.BalanceLemmas.{bars_balanced, lines_balanced}
use Rattle.lot_plot.proofs.laws.plots_are_balanced.Goals as goal

pub returns-clause-bars : goal.returns-clause-bars
returns-clause-bars c = bars_balanced

pub returns-clause-lines : goal.returns-clause-lines
returns-clause-lines c = lines_balanced
