use Rattle.std.proofs.Common.{◌≡◌, length, rules}
use Rattle.lot_table.proofs.SpreadLemmas.{spread}
use Rattle.lot_rows.proofs.sale.SaleRowTableRow.read.Goals as goal

pub returns-clause-ok : goal.returns-clause-ok
returns-clause-ok c =
    let count : length c.args.row.now ≡ 9 = search rules in
    let price = c.in_ok-price.ensures.ok in
    rw (c.in_ok-column.ensures.ok, c.in_ok-column-2.ensures.ok, c.in_ok-column-3.ensures.ok, c.in_ok-column-4.ensures.ok, c.in_ok-column-5.ensures.ok, c.in_ok-column-6.ensures.ok, price.0, price.1, price.2) at (spread 9 c.args.row.now count)
