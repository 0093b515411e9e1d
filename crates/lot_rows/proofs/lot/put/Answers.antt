use Rattle.sqlite.specs.Held.{state}
use Rattle.lot_rows.proofs.LotLemmas.{puts_row}
use Rattle.lot_rows.proofs.lot.put.Goals as goal

pub returns-clause-puts : goal.returns-clause-puts
returns-clause-puts g c =
    puts_row (state g.S.Store c.args.tx.now.conn.now) (state g.S.Store c.change.new.tx.conn.now) c.args.row.now c.change.result
    (rw (c.cells_with.ensures.columns, c.to_cell.ensures) at c.change.ensures.runs)
