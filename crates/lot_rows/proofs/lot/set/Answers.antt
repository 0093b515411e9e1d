use Rattle.sqlite.specs.Held.{state}
use Rattle.lot_rows.proofs.LotLemmas.{sets_row}
use Rattle.lot_rows.proofs.lot.set.Goals as goal

pub returns-clause-sets : goal.returns-clause-sets
returns-clause-sets g c =
    sets_row (state g.S.Store c.args.tx.now.conn.now) (state g.S.Store c.change.new.tx.conn.now) c.args.row.now c.change.result
    (rw (c.cells_with.ensures.columns, c.to_cell.ensures) at c.change.ensures.runs)
