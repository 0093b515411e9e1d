-- The units are in range, and so is the rate.
use Rattle.lot_posting.proofs.BalanceLemmas.{weight-small}
use Rattle.lot_posting.proofs.balance.weight_at_price.Goals as goal

pub returns-in-Some-Each-clause-bound : goal.returns-in-Some-Each-clause-bound
returns-in-Some-Each-clause-bound c =
    weight-small c.args.amount.now.units c.weight.result c.wide-units.result
    c.wide-units.ensures.value c.wide-units.ensures.bound c.weight.ensures.bound
