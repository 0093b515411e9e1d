-- What is told of the database that is taken up, or isn't.
use Rattle.std.proofs.Common.{subst, sym, ◌∙◌}
use Rattle.sqlite.specs.Held.{state}
use Rattle.sqlite.specs.State.{HasCleanDisk, IsUnchanged}
use Rattle.lot_store.specs.Create.{IsTaken}
use Rattle.lot_verify.specs.Verify.{NotVerified}
use Rattle.lot_verify.proofs.VerifyLemmas.{not_adopted, not_stands, stands_then}
use Rattle.lot_verify.proofs.verification.verify.Goals as goal

pub returns-in-Ok-judge_book-clause-stands : goal.returns-in-Ok-judge_book-clause-stands
returns-in-Ok-judge_book-clause-stands g c clean tables has =
    let old = state g.S.Store c.args.conn in
    let held = sym c.into_connection-conn.ensures.same in
    stands_then old (state g.S.Store c.into_connection-conn.result) (state g.S.Store c.judge_book.new.conn)
    (subst (λ h. HasCleanDisk (state g.S.Store h) → IsUnchanged old (state g.S.Store h)) held c.in-Ok.ensures.same)
    (subst (λ h. HasCleanDisk (state g.S.Store h) → IsTaken old) held c.in-Ok.ensures.taken) c.in-Ok-judge_book.ensures.judges clean tables has

pub returns-in-Err-clause-refused : goal.returns-in-Err-clause-refused
returns-in-Err-clause-refused g c clean device memory entries =
    not_stands (state g.S.Store c.args.conn) (state g.S.Store c.in-Err.field-0.conn) c.in-Err.field-0.fault (c.in-Err.ensures.refused clean)
    (λ is. device (c.from-in-Err.ensures ∙ is)) (λ is. memory (c.from-in-Err.ensures ∙ is)) entries

pub returns-in-Err-clause-tells : goal.returns-in-Err-clause-tells
returns-in-Err-clause-tells g c clean =
    let left = state g.S.Store c.in-Err.field-0.conn in
    subst (NotVerified (state g.S.Store c.args.conn) left) (sym c.from-in-Err.ensures)
    (not_adopted (state g.S.Store c.args.conn) left c.in-Err.field-0.fault (c.in-Err.ensures.tells_err clean))
