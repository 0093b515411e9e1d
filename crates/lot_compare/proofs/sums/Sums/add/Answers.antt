use Rattle.std.proofs.Common.{rules}
use Rattle.lot_compare.proofs.SumLemmas.{sums_step}
use Rattle.lot_compare.proofs.sums.Sums.add.Goals as goal

pub returns-clause-added : goal.returns-clause-added
returns-clause-added c amounts sums =
    sums_step c.args.side amounts _ _ _ _ _ sums c.in_ok-insert.ensures.updates.0 c.in_ok-insert.ensures.ordered (search rules)
