use Rattle.std.proofs.Common.{◌≡◌, length, rules}
use Rattle.lot_table.proofs.SpreadLemmas.{spread}
use Rattle.lot_rows.proofs.opening.OpeningRowTableRow.read.Goals as goal

pub returns-clause-ok : goal.returns-clause-ok
returns-clause-ok c =
    let count : length c.args.row.now ≡ 7 = search rules in
    rw (c.in_ok-column.ensures.ok, c.in_ok-column-2.ensures.ok, c.in_ok-column-3.ensures.ok, c.in_ok-column-4.ensures.ok, c.in_ok-column-5.ensures.ok, c.in_ok-column-6.ensures.ok, c.in_ok-column-7.ensures.ok) at (spread 7 c.args.row.now count)
