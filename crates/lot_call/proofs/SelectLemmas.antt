-- The queries of this crate each begin with a SELECT.
use Rattle.std.proofs.Common.{codes, refl}
use Rattle.sqlite_tied.specs.Compute.{everything}
use Rattle.lot_table.specs.Statement.{IsSelect}

pub accounts_selects : IsSelect (codes "SELECT name, opened, closed, method FROM account ORDER BY name")
unfolding everything
accounts_selects = (_, refl, refl)

pub last_leg_selects : IsSelect (codes "SELECT entry, posting, place, account, commodity, units, cost_number, cost_currency, cost_day, cost_label FROM leg WHERE account = ?1 AND commodity = ?2 AND cost_day IS NOT NULL ORDER BY entry DESC, posting DESC, place DESC LIMIT 1")
unfolding everything
last_leg_selects = (_, refl, refl)

pub first_lot_selects : IsSelect (codes "SELECT account, commodity, cost_day, cost_currency, cost_number, cost_label, units FROM lot WHERE account = ?1 ORDER BY account, commodity, cost_day, cost_currency, cost_number, cost_label LIMIT 1")
unfolding everything
first_lot_selects = (_, refl, refl)

pub names_selects : IsSelect (codes "SELECT name FROM sqlite_schema LIMIT 1")
unfolding everything
names_selects = (_, refl, refl)

pub marked_selects : IsSelect (codes "SELECT mark, edition FROM book WHERE mark = 'lot-book' ORDER BY mark")
unfolding everything
marked_selects = (_, refl, refl)
