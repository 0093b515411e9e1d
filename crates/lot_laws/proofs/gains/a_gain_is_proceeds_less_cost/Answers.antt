use Rattle.lot_laws.proofs.GainLaws.{a_gain_is_proceeds_less_cost}
use Rattle.lot_laws.proofs.gains.a_gain_is_proceeds_less_cost.Goals as goal

pub returns : goal.returns
returns c = a_gain_is_proceeds_less_cost
