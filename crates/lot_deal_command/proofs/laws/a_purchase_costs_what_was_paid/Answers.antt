use Rattle.lot_deal_command.proofs.BalanceLaws.{costs_what_was_paid}
use Rattle.lot_deal_command.proofs.laws.a_purchase_costs_what_was_paid.Goals as goal

pub returns : goal.returns
returns c = costs_what_was_paid
