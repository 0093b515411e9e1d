use Rattle.lot_reconcile.proofs.BalanceLemmas.{all_said, none_said, one_said}
use Rattle.lot_reconcile.proofs.rows.rows_of.Goals as goal

pub loop-commodity-init : goal.loop-commodity-init
loop-commodity-init c =
    none_said c.new-rows.result.entries _ c.args.statement.entries c.new-rows.ensures.empty c.into_iter-commodity-iterator.ensures.into_iter_gives.0

pub loop-commodity-preserved : goal.loop-commodity-preserved
loop-commodity-preserved c =
    one_said c.loop-commodity.rows.entries c.set_row.new.rows.entries c.loop-commodity.commodity-iterator _ c.args.statement.entries
    c.in-Some.commodity c.in-Some.units c.of_statement.result c.into_iter-commodity-iterator.ensures.into_iter_gives.5 c.loop-commodity.invariant
    c.in-Some.ensures.steps c.of_statement.ensures c.in_ok-set_row.ensures.entries

pub returns-clause-rows : goal.returns-clause-rows
returns-clause-rows c lines has =
    all_said lines c.loop-commodity.rows.entries c.loop-commodity.commodity-iterator c.args.statement c.loop-commodity.invariant
    c.in-None.ensures.steps.0 has
