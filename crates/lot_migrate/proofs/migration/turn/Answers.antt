use Rattle.std.proofs.Common.{◌≡◌, OnOk, arith, rules, subst}
use Rattle.sqlite.specs.Held.{state}
use Rattle.sqlite.specs.State.{HasCleanDisk, Survives}
use Rattle.lot_table.proofs.BookLemmas.{on_ok}
use Rattle.lot_store.proofs.CommitLemmas.{commit_leaves}
use Rattle.lot_migrate.specs.Migrate.{IsCommitted, LeavesTakenOver, MigratesMarked}
use Rattle.lot_migrate.proofs.TurnLemmas.{leaves_migrated, makes_begun, on_migrated, taken_over}
use Rattle.lot_migrate.proofs.migration.turn.Goals as goal

pub returns-clause-taken : goal.returns-clause-taken
returns-clause-taken g c clean =
    let old = c.args.conn.now in
    let begun = c.transaction-tx.result.conn.now in
    let last = c.fill.new.tx.conn.now in
    let end = c.commit.new.self.0 in
    let at_end : HasCleanDisk (state g.S.Store end) → OnOk c.commit.result (MigratesMarked (state g.S.Store old) (state g.S.Store end) × IsCommitted (state g.S.Store end)) =
    λ clean_end.
    let early : HasCleanDisk (state g.S.Store last) = omega (arith, clean_end, c.commit.ensures.survives.clean) in
    on_ok c.commit.result _ _
    (λ shown. taken_over (state g.S.Store old) (state g.S.Store last) (state g.S.Store end)
    (makes_begun g.S.Store old begun (state g.S.Store last) c.transaction-tx.ensures.begun (c.in_ok-fill.ensures.made early)) shown.1)
    (c.commit.ensures.ok clean_end) in
    let same : c.commit.new.self.0 ≡ c.conn-2-1.given.0 = search rules in
    let there =
    subst (λ h. HasCleanDisk (state g.S.Store h) → OnOk c.commit.result (MigratesMarked (state g.S.Store old) (state g.S.Store h) × IsCommitted (state g.S.Store h))) same at_end in
    rw c.after_commit.ensures (on_migrated c.commit.result _ (there clean))

pub returns-clause-crash : goal.returns-clause-crash
returns-clause-crash g c =
    let old = c.args.conn.now in
    let begun = c.transaction-tx.result.conn.now in
    let last = c.fill.new.tx.conn.now in
    let P = LeavesTakenOver (state g.S.Store old) in
    let made = λ (clean : HasCleanDisk (state g.S.Store last)).
    leaves_migrated (state g.S.Store old) (state g.S.Store last)
    (makes_begun g.S.Store old begun (state g.S.Store last) c.transaction-tx.ensures.begun (c.in_ok-fill.ensures.made clean)) in
    let whole =
    commit_leaves g.S.Store old begun last c.commit.new.self.0 P c.transaction-tx.ensures.begun c.fill.ensures.crash made
    c.commit.ensures.survives in
    let same : c.commit.new.self.0 ≡ c.conn-2-1.given.0 = search rules in
    subst (λ h. Survives (state g.S.Store old) (state g.S.Store h) P) same whole
