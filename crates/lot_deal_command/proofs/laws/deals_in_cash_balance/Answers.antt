use Rattle.lot_deal_command.proofs.BalanceLaws.{cash_balances}
use Rattle.lot_deal_command.proofs.laws.deals_in_cash_balance.Goals as goal

pub returns : goal.returns
returns c = cash_balances
