-- Sale by sale.
use Rattle.lot_report.proofs.GainLaws.{total_is_proceeds_less_costs}
use Rattle.lot_report.proofs.laws.a_total_gain_is_proceeds_less_costs.Goals as goal

pub returns : goal.returns
returns c = total_is_proceeds_less_costs
