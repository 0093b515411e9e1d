-- Each row has the sums over its legs, and each leg is in one row.
use Rattle.lot_activity.proofs.LawLemmas.{net_of_rows}
use Rattle.lot_activity.proofs.laws.rows_add_up_to_the_legs.Goals as goal

pub returns : goal.returns
returns c = net_of_rows
