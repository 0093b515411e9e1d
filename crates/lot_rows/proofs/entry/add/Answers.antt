use Rattle.sqlite.specs.Held.{state}
use Rattle.lot_rows.proofs.EntryLemmas.{adds_row}
use Rattle.lot_rows.proofs.entry.add.Goals as goal

pub returns-clause-adds : goal.returns-clause-adds
returns-clause-adds g c =
    adds_row (state g.S.Store c.args.tx.now.conn.now) (state g.S.Store c.change.new.tx.conn.now) c.args.row.now c.change.result
    (rw (c.to_cell.ensures, c.to_cell-2.ensures, c.to_cell-3.ensures, c.to_cell-4.ensures) at c.change.ensures.runs)
