use Rattle.std.proofs.Common.{◌≡◌, length, rules}
use Rattle.lot_table.proofs.SpreadLemmas.{spread}
use Rattle.lot_rows.proofs.leg.LegRowTableRow.read.Goals as goal

pub returns-clause-ok : goal.returns-clause-ok
returns-clause-ok c =
    let count : length c.args.row.now ≡ 10 = search rules in
    let cost = c.in_ok-lot.ensures.ok in
    rw (c.in_ok-column.ensures.ok, c.in_ok-column-2.ensures.ok, c.in_ok-column-3.ensures.ok, c.in_ok-column-4.ensures.ok, c.in_ok-column-5.ensures.ok, c.in_ok-column-6.ensures.ok, cost.0, cost.1, cost.2, cost.3) at (spread 10 c.args.row.now count)
