-- The queries for the key of a row each begin with a SELECT.
use Rattle.std.proofs.Common.{codes, refl}
use Rattle.sqlite_tied.specs.Compute.{everything}
use Rattle.lot_table.specs.Statement.{IsSelect}

pub account_selects : IsSelect (codes "SELECT name FROM account ORDER BY name LIMIT 1 OFFSET ?1")
unfolding everything
account_selects = (_, refl, refl)

pub allowed_selects : IsSelect (codes "SELECT account || ' ' || commodity FROM allowed ORDER BY account, place LIMIT 1 OFFSET ?1")
unfolding everything
allowed_selects = (_, refl, refl)

pub commodity_selects : IsSelect (codes "SELECT name FROM commodity ORDER BY name LIMIT 1 OFFSET ?1")
unfolding everything
commodity_selects = (_, refl, refl)

pub price_selects : IsSelect (codes "SELECT base || ' ' || quote || ' ' || day FROM price ORDER BY base, quote, day LIMIT 1 OFFSET ?1")
unfolding everything
price_selects = (_, refl, refl)

pub lot_selects : IsSelect (codes "SELECT account || ' ' || commodity FROM lot ORDER BY account, commodity, cost_day, cost_currency, cost_number, cost_label LIMIT 1 OFFSET ?1")
unfolding everything
lot_selects = (_, refl, refl)

pub plain_selects : IsSelect (codes "SELECT account || ' ' || commodity FROM plain ORDER BY account, commodity LIMIT 1 OFFSET ?1")
unfolding everything
plain_selects = (_, refl, refl)

pub head_selects : IsSelect (codes "SELECT account || ' ' || commodity FROM head ORDER BY account, commodity LIMIT 1 OFFSET ?1")
unfolding everything
head_selects = (_, refl, refl)

pub opening_selects : IsSelect (codes "SELECT account || ' ' || commodity FROM opening ORDER BY account, commodity, cost_day, cost_currency, cost_number, cost_label LIMIT 1 OFFSET ?1")
unfolding everything
opening_selects = (_, refl, refl)
