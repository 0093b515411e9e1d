-- Each query begins with a SELECT.
use Rattle.lot_verify.proofs.SelectLemmas.{account_selects, allowed_selects, commodity_selects, head_selects, lot_selects, opening_selects, plain_selects, price_selects}
use Rattle.lot_verify.proofs.damage.query_of.Goals as goal

pub returns-in-Account : goal.returns-in-Account
returns-in-Account c = account_selects

pub returns-in-Allowed : goal.returns-in-Allowed
returns-in-Allowed c = allowed_selects

pub returns-in-Commodity : goal.returns-in-Commodity
returns-in-Commodity c = commodity_selects

pub returns-in-Price : goal.returns-in-Price
returns-in-Price c = price_selects

pub returns-in-Lot : goal.returns-in-Lot
returns-in-Lot c = lot_selects

pub returns-in-Plain : goal.returns-in-Plain
returns-in-Plain c = plain_selects

pub returns-in-Head : goal.returns-in-Head
returns-in-Head c = head_selects

pub returns-in-Opening : goal.returns-in-Opening
returns-in-Opening c = opening_selects
