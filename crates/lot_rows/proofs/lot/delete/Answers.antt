use Rattle.sqlite.specs.Held.{state}
use Rattle.lot_rows.proofs.LotLemmas.{deletes_row}
use Rattle.lot_rows.proofs.lot.delete.Goals as goal

pub returns-clause-deletes : goal.returns-clause-deletes
returns-clause-deletes g c =
    deletes_row (state g.S.Store c.args.tx.now.conn.now) (state g.S.Store c.change.new.tx.conn.now) c.args.account.now c.args.commodity.now c.args.lot.now c.change.result
    (rw (c.cells.ensures.columns) at c.change.ensures.runs)
