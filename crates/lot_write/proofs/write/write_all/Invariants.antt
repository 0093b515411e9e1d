use Rattle.std.proofs.Common.{◌≡◌, IsTrue, take}
use Rattle.sqlite.specs.Held.{state}
use Rattle.sqlite.specs.State.{HasCleanDisk, KeepsCommit, Survives}
use Rattle.lot_table.specs.Book.{Turns, always}
use Rattle.lot_rows.specs.Tables.{layout}
use Rattle.lot_write.specs.Call.{GivesRowids}
use Rattle.lot_write.specs.Write.{written_all}
use Rattle.lot_write.proofs.write.write_all.Given as goal

-- the writes so far are made, inside the transaction
abbrev pub invariant-each : goal.invariant-each
invariant-each g l =
    let old = state g.S.Store l.fn.tx.conn.now in
    let now = state g.S.Store l.tx.conn.now in
    let done = take l.write-index l.writes in
    (l.tx.conn.ghost_name ≡ l.fn.tx.conn.ghost_name) × Survives old now (λ _. ⊥)
    × (HasCleanDisk now → IsTrue now.in_transaction × KeepsCommit old now × Turns layout always (written_all done) old now
    × GivesRowids l.write-index old now)
