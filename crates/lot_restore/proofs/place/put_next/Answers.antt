use Rattle.std.proofs.Common.{ℕ, add-one, subst}
use Rattle.sqlite.specs.Held.{state}
use Rattle.lot_rows.specs.Tables.{layout, migration_table}
use Rattle.lot_stored.specs.Rows.{migration_row}
use Rattle.lot_table.specs.Call.{Puts}
use Rattle.lot_restore.proofs.PlaceLemmas.{puts_next}
use Rattle.lot_restore.proofs.place.put_next.Goals as goal

pub returns-clause-puts : goal.returns-clause-puts
returns-clause-puts g c =
    let mid = state g.S.Store c.delete.new.tx.conn.now in
    let new = state g.S.Store c.put.new.tx.conn.now in
    puts_next c.args.before (state g.S.Store c.args.tx.now.conn.now) mid new c.in_ok-delete.field-0 c.put.result c.in_ok-delete.ensures.deletes
    (subst (λ (n : ℕ). Puts layout migration_table (migration_row n) mid new c.put.result) (add-one c.args.before) c.put.ensures.puts)
