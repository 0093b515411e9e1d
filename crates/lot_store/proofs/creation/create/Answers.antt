use Rattle.std.proofs.Common.{◌≡◌, [], rules}
use Rattle.sqlite.proofs.StateLemmas.{survives_weaker}
use Rattle.sqlite.specs.Held.{state}
use Rattle.lot_table.specs.Shape.{schema_of}
use Rattle.lot_store.proofs.creation.create.Goals as goal

pub returns-in-Ok-clause-crash_ok : goal.returns-in-Ok-clause-crash_ok
returns-in-Ok-clause-crash_ok g c =
    let empty : (state g.S.Store c.args.conn).now.schema ≡ schema_of [] = search rules in
    rw c.ready_over.ensures.0 (survives_weaker _ _ _ _ (λ clean trees left. (empty, left empty)) c.in-Ok.ensures.crash)

pub returns-in-Err-clause-crash_err : goal.returns-in-Err-clause-crash_err
returns-in-Err-clause-crash_err g c =
    let empty : (state g.S.Store c.args.conn).now.schema ≡ schema_of [] = search rules in
    survives_weaker _ _ _ _ (λ clean trees left. (left.0, (empty, left.1 empty))) c.in-Err.ensures.crash_err
