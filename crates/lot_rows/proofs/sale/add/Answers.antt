use Rattle.lot_rows.proofs.SaleLemmas.{amount_bound, currency_bound}
use Rattle.sqlite.specs.Held.{state}
use Rattle.lot_rows.proofs.SaleLemmas.{adds_row}
use Rattle.lot_rows.proofs.sale.add.Goals as goal

pub returns-clause-adds : goal.returns-clause-adds
returns-clause-adds g c =
    adds_row (state g.S.Store c.args.tx.now.conn.now) (state g.S.Store c.change.new.tx.conn.now) c.args.row.now c.change.result
    (rw (c.to_cell.ensures, c.to_cell-2.ensures, c.to_cell-3.ensures, c.to_cell-4.ensures, c.to_cell-5.ensures, c.to_cell-6.ensures, c.kind_cell.ensures, c.amount_cell.ensures, c.currency_cell.ensures, amount_bound c.args.row.now.price, currency_bound c.args.row.now.price) at c.change.ensures.runs)
