use Rattle.sqlite.specs.Held.{state}
use Rattle.lot_rows.proofs.MigrationLemmas.{deletes_row}
use Rattle.lot_rows.proofs.migration.delete.Goals as goal

pub returns-clause-deletes : goal.returns-clause-deletes
returns-clause-deletes g c =
    deletes_row (state g.S.Store c.args.tx.now.conn.now) (state g.S.Store c.change.new.tx.conn.now) (record { entries = c.args.entries }) c.change.result
    (rw (c.to_cell.ensures) at c.change.ensures.runs)
