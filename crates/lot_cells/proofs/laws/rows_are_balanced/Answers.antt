use Rattle.lot_cells.proofs.BalanceLemmas.{account_balanced, commodity_balanced, entry_balanced, gain_total_balanced, holding_balanced, lot_total_balanced, month_balanced, sale_balanced, year_balanced}
use Rattle.lot_cells.proofs.laws.rows_are_balanced.Goals as goal

pub returns-clause-year : goal.returns-clause-year
returns-clause-year c = year_balanced

pub returns-clause-commodity : goal.returns-clause-commodity
returns-clause-commodity c = commodity_balanced

pub returns-clause-gain_total : goal.returns-clause-gain_total
returns-clause-gain_total c = gain_total_balanced

pub returns-clause-account : goal.returns-clause-account
returns-clause-account c = account_balanced

pub returns-clause-holding : goal.returns-clause-holding
returns-clause-holding c = holding_balanced

pub returns-clause-lot_total : goal.returns-clause-lot_total
returns-clause-lot_total c = lot_total_balanced

pub returns-clause-month : goal.returns-clause-month
returns-clause-month c = month_balanced

pub returns-clause-sale : goal.returns-clause-sale
returns-clause-sale c = sale_balanced

pub returns-clause-entry : goal.returns-clause-entry
returns-clause-entry c = entry_balanced
