-- A text that says the amount has no fewer digits, and a sign where the amount is below zero.
use Rattle.lot_num.proofs.ShortestLemmas.{units_shortest, money_shortest, money_decimals, rate_shortest}
use Rattle.lot_num.proofs.laws.printed_text_is_shortest.Goals as goal

pub returns-clause-units : goal.returns-clause-units
returns-clause-units c = units_shortest

pub returns-clause-money : goal.returns-clause-money
returns-clause-money c = money_shortest

pub returns-clause-money_has_two : goal.returns-clause-money_has_two
returns-clause-money_has_two c = money_decimals

pub returns-clause-rate : goal.returns-clause-rate
returns-clause-rate c = rate_shortest
