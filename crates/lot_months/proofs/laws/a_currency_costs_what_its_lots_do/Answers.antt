use Rattle.lot_months.proofs.CostLemmas.{costs_add_up}
use Rattle.lot_months.proofs.laws.a_currency_costs_what_its_lots_do.Goals as goal

pub returns : goal.returns
returns c = costs_add_up
