use Rattle.lot_report.proofs.HoldingLemmas.{both_count, cost_has_no_room, cost_leaves, value_leaves}
use Rattle.lot_report.proofs.holdings.HoldingSums.add_both.Goals as goal

pub returns-in_default-clause-sums : goal.returns-in_default-clause-sums
returns-in_default-clause-sums c costs values cost_sums value_sums =
    cost_leaves costs values _ _ _ c.args.self.now.costs c.args.self.now.values (c.in_default.ensures costs cost_sums)

pub returns-in_default-sum_with-clause-sums : goal.returns-in_default-sum_with-clause-sums
returns-in_default-sum_with-clause-sums c costs values cost_sums value_sums =
    value_leaves costs values _ _ _ c.args.self.now.costs c.args.self.now.values (c.in_default-sum_with.ensures values value_sums)

pub returns-in_err-set-clause-sums : goal.returns-in_err-set-clause-sums
returns-in_err-set-clause-sums c costs values cost_sums value_sums =
    cost_has_no_room costs values _ _ _ c.set.new.self c.args.self.now.values c.in_err-set.field-0.0 c.from_residual.result
    (c.in-Some.ensures costs cost_sums).0 (c.in-Some-sum_with.ensures values value_sums).0
    c.in_err-set.ensures.cause c.from_residual.ensures.1

pub returns-clause-sums : goal.returns-clause-sums
returns-clause-sums c costs values cost_sums value_sums =
    let wide = c.in-Some.ensures costs cost_sums in
    let worth = c.in-Some-sum_with.ensures values value_sums in
    both_count costs values _ _ _ c.set.new.self c.set-2.new.self c.set-2.result wide.0 worth.0 (c.in_ok-set.ensures.sums costs _ cost_sums wide.1)
    (c.set-2.ensures.sums values _ value_sums worth.1) c.set-2.ensures.cause
