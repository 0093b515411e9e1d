use Rattle.std.proofs.Common.{◌≡◌, [], OnOk, arith, rules, subst}
use Rattle.sqlite.proofs.Callers.{survives_begin}
use Rattle.sqlite.proofs.StateLemmas.{survives_then}
use Rattle.sqlite.specs.Held.{state}
use Rattle.sqlite.specs.State.{HasCleanDisk, Survives}
use Rattle.sqlite.specs.Tree.{Trees}
use Rattle.lot_stored.specs.StandFor.{Left, Stands}
use Rattle.lot_table.specs.Shape.{schema_of}
use Rattle.lot_table.proofs.BookLemmas.{on_ok}
use Rattle.lot_store.proofs.ApplyLemmas.{stands_along}
use Rattle.lot_store.proofs.CommitLemmas.{commit_leaves, leaves_none}
use Rattle.lot_store.proofs.CreateLemmas.{made_in, none_left, none_stands, of_each_error, on_created, on_failed}
use Rattle.lot_store.proofs.creation.make.Goals as goal

pub returns-clause-made : goal.returns-clause-made
returns-clause-made g c clean =
    let old = c.args.conn.now in
    let begun = c.transaction-tx.result.conn.now in
    let last = c.make_tables.new.tx.conn.now in
    let end = c.commit.new.self.0 in
    let at_end : HasCleanDisk (state g.S.Store end) → OnOk c.commit.result ((state g.S.Store old).now.schema ≡ schema_of [] → Stands (state g.S.Store end) []) =
    λ clean_end.
    let early : HasCleanDisk (state g.S.Store last) = omega (arith, clean_end, c.commit.ensures.survives.clean) in
    on_ok c.commit.result _ _ (λ shown empty.
    stands_along (state g.S.Store last) (state g.S.Store end) [] shown.1.now_is
    (none_stands (state g.S.Store last) (made_in g.S.Store old begun last c.transaction-tx.ensures.begun c.schema-sound.ensures.live (c.make_tables.ensures.kept early)
    (c.in_ok-make_tables.ensures.made early) (c.in_ok-make_tables.ensures.opened early) empty))) (c.commit.ensures.ok clean_end) in
    let same : c.commit.new.self.0 ≡ c.conn-2-1.given.0 = search rules in
    let there = subst (λ h. HasCleanDisk (state g.S.Store h) → OnOk c.commit.result ((state g.S.Store old).now.schema ≡ schema_of [] → Stands (state g.S.Store h) [])) same at_end in
    rw c.after_commit.ensures (on_created c.commit.result _ (there clean))

pub returns-clause-crash : goal.returns-clause-crash
returns-clause-crash g c =
    let old = c.args.conn.now in
    let begun = c.transaction-tx.result.conn.now in
    let last = c.make_tables.new.tx.conn.now in
    let P : Trees → Type 0 = λ trees. (state g.S.Store old).now.schema ≡ schema_of [] → Left trees [] in
    let made = λ (clean : HasCleanDisk (state g.S.Store last)) (empty : (state g.S.Store old).now.schema ≡ schema_of []).
    none_left (state g.S.Store last).now.trees (made_in g.S.Store old begun last c.transaction-tx.ensures.begun c.schema-sound.ensures.live (c.make_tables.ensures.kept clean)
    (c.in_ok-make_tables.ensures.made clean) (c.in_ok-make_tables.ensures.opened clean) empty).1 in
    let whole = commit_leaves g.S.Store old begun last c.commit.new.self.0 P c.transaction-tx.ensures.begun c.make_tables.ensures.crash made c.commit.ensures.survives in
    let same : c.commit.new.self.0 ≡ c.conn-2-1.given.0 = search rules in
    subst (λ h. Survives (state g.S.Store old) (state g.S.Store h) P) same whole

pub returns-clause-crash_err : goal.returns-clause-crash_err
returns-clause-crash_err g c = rw c.after_commit.ensures (on_failed c.commit.result _ _ _ (returns-clause-crash g c))

pub returns-in_err-make_tables-clause-crash_err : goal.returns-in_err-make_tables-clause-crash_err
returns-in_err-make_tables-clause-crash_err g c =
    let old = c.args.conn.now in
    let last = c.make_tables.new.tx.conn.now in
    let wrote = survives_begin g.S.Store old (state g.S.Store last) (λ _. ⊥)
    (subst (λ h. Survives (state g.S.Store h) (state g.S.Store last) (λ _. ⊥)) c.transaction-tx.ensures.begun c.make_tables.ensures.crash) in
    of_each_error _ _ (λ fault. leaves_none _ _ _ (survives_then (state g.S.Store old) (state g.S.Store last) _ (λ _. ⊥) (λ _. ⊥) (λ _. ⊥) (λ _ db none. none) (λ _ db none. none) wrote (search rules)))
