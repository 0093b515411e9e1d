use Rattle.std.proofs.Common.{◌≡◌, IsTrue, map, take}
use Rattle.sqlite.specs.State.{HasCleanDisk, KeepsCommit, Survives}
use Rattle.sqlite.specs.Held.{state}
use Rattle.lot_table.specs.Make.{RanEach}
use Rattle.lot_table.proofs.make.make_each.Given as goal

abbrev pub invariant-each : goal.invariant-each
invariant-each g l =
    let old = l.fn.tx.conn.now in
    let now = l.tx.conn.now in
    (l.tx.conn.ghost_name ≡ l.fn.tx.conn.ghost_name) × Survives (state g.S.Store old) (state g.S.Store now) (λ _. ⊥)
    × (HasCleanDisk (state g.S.Store now) → IsTrue (state g.S.Store now).in_transaction × KeepsCommit (state g.S.Store old) (state g.S.Store now) × RanEach g.S.Store (map (λ t. t.now) (take l.text-index l.texts)) old now)
