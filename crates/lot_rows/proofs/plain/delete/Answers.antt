use Rattle.sqlite.specs.Held.{state}
use Rattle.lot_rows.proofs.PlainLemmas.{deletes_row}
use Rattle.lot_rows.proofs.plain.delete.Goals as goal

pub returns-clause-deletes : goal.returns-clause-deletes
returns-clause-deletes g c =
    deletes_row (state g.S.Store c.args.tx.now.conn.now) (state g.S.Store c.change.new.tx.conn.now) c.args.account.now c.args.commodity.now c.change.result
    (rw (c.to_cell.ensures, c.to_cell-2.ensures) at c.change.ensures.runs)
