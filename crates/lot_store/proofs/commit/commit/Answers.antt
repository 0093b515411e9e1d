use Rattle.std.proofs.Common.{◌≡◌, ◌∙◌, ◌⊎◌, Err, ap, rules, subst, sym}
use Rattle.std.proofs.lemmas.Result.{err_from_is_err_and}
use Rattle.sqlite.specs.Held.{state}
use Rattle.sqlite.specs.State.{HasCleanDisk}
use Rattle.lot_write.specs.Call.{Stops}
use Rattle.lot_table.specs.Statement.{DiskFailed}
use Rattle.lot_store.specs.declared.fault.StoreFault.TheVariants.{Device}
use Rattle.lot_store.proofs.CommitLemmas.{of_device, refused_undone}
use Rattle.lot_store.proofs.commit.commit.Goals as goal

pub returns-in_err-write_all-clause-device : goal.returns-in_err-write_all-clause-device
returns-in_err-write_all-clause-device g c clean is tables fit has =
    let fault = err_from_is_err_and c.from_residual.result c.from_residual.ensures.1 in
    let both = sym fault.1 ∙ is in
    let told : fault.0 ≡ Device = cc in
    let same : c.drop-tx.new.self.0 ≡ c.conn-1.given.0 = search rules in
    subst (λ h. HasCleanDisk (state g.S.Store h) → DiskFailed (state g.S.Store c.args.conn.now) (state g.S.Store h) ⊎ Stops c.args.writes.now tables (state g.S.Store c.args.conn.now).now.trees (state g.S.Store h)) same
    (λ clean_end. refused_undone g.S.Store c.args.conn.now c.transaction-tx.result.conn.now c.write_all.new.tx.conn.now c.drop-tx.new.self.0 c.args.writes.now tables c.transaction-tx.ensures.begun
    (λ clean_last held. c.in_err-write_all.ensures.writes.device clean_last (ap Err (of_device c.in_err-write_all.field-0.0 (sym fault.2 ∙ told))) tables fit held)
    c.drop-tx.ensures.survives c.drop-tx.ensures.ended clean_end has) clean
