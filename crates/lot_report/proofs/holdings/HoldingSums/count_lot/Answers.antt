use Rattle.lot_report.proofs.HoldingLemmas.{both_are, cost_counts}
use Rattle.lot_report.proofs.holdings.HoldingSums.count_lot.Goals as goal

pub returns-in-Some-clause-sums : goal.returns-in-Some-clause-sums
returns-in-Some-clause-sums c costs values cost_sums value_sums =
    rw (c.in-Some.is) (both_are costs values _ _ _ _ _ c.add_both.new.self.costs c.add_both.new.self.values _ c.weight-cost.ensures.value c.weight.ensures.value (c.add_both.ensures.sums costs values cost_sums value_sums))

pub returns-in-None-clause-sums : goal.returns-in-None-clause-sums
returns-in-None-clause-sums c costs values cost_sums value_sums =
    rw (c.in-None.is) (cost_counts costs values _ _ _ c.add.new.self c.args.self.now.values _ c.weight-cost.ensures.value
    (c.add.ensures.added costs cost_sums) (c.add.ensures.fits costs cost_sums) (c.add.ensures.range costs cost_sums)
    (c.add.ensures.memory costs cost_sums) c.add.ensures.cause value_sums)
