-- What is printed is a number text that says the amount.
use Rattle.lot_num.proofs.PrintedLemmas.{units_of-amount_text, rate_of-amount_text}
use Rattle.lot_num.proofs.laws.printed_text_reads_back.Goals as goal

pub returns-clause-units : goal.returns-clause-units
returns-clause-units c = units_of-amount_text 0

pub returns-clause-money : goal.returns-clause-money
returns-clause-money c = units_of-amount_text 2

pub returns-clause-rate : goal.returns-clause-rate
returns-clause-rate c = rate_of-amount_text
