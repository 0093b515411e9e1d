use Rattle.sqlite.specs.Held.{state}
use Rattle.lot_rows.proofs.HeadLemmas.{sets_row}
use Rattle.lot_rows.proofs.head.set.Goals as goal

pub returns-clause-sets : goal.returns-clause-sets
returns-clause-sets g c =
    sets_row (state g.S.Store c.args.tx.now.conn.now) (state g.S.Store c.change.new.tx.conn.now) c.args.row.now c.change.result
    (rw (c.to_cell.ensures, c.to_cell-2.ensures, c.to_cell-3.ensures) at c.change.ensures.runs)
