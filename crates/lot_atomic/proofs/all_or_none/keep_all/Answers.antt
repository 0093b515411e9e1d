-- How commands end whose transaction is committed, or rolled back.
use Rattle.std.proofs.Common.{◌≡◌, rules, subst}
use Rattle.std.specs.Option.{option_copied}
use Rattle.sqlite.specs.Held.{state}
use Rattle.lot_atomic.specs.AllOrNone.{AppliesAll, ended_by}
use Rattle.lot_store.specs.Apply.{commit_outcome, store_fault_of}
use Rattle.lot_atomic.specs.declared.all_or_none.Ended.TheVariants as ending
use Rattle.lot_atomic.proofs.AllOrNoneLemmas.{ends_accepted, ends_at_once, ends_failed, ends_refused, ends_repeated, not_outside, rolled_behind_look}
use Rattle.lot_rows.proofs.StateLemmas.{survives_both}
use Rattle.lot_atomic.proofs.all_or_none.keep_all.Goals as goal

pub returns-then-not-is_autocommit-clause-applies : goal.returns-then-not-is_autocommit-clause-applies
returns-then-not-is_autocommit-clause-applies g c =
    ends_at_once (option_copied c.args.rounding) c.args.commands.now (state g.S.Store c.args.conn.now) c.args.verdicts.now.items
    (λ clean. not_outside c.is_autocommit.result c.args.conn.now.in_transaction c.if-not-is_autocommit.true c.is_autocommit.ensures.value (c.requires.outside clean))

pub returns-in-Ok-Accepts-clause-applies : goal.returns-in-Ok-Accepts-clause-applies
returns-in-Ok-Accepts-clause-applies g c =
    let same : c.commit.new.self.0 ≡ c.conn-1.given.0 = search rules in
    rw c.after_commit.ensures
    (subst (λ (h : _). AppliesAll (option_copied c.args.rounding) c.args.commands.now (state g.S.Store c.args.conn.now) (state g.S.Store h) c.judge_all.new.verdicts.items (ended_by (commit_outcome c.commit.result))) same
    (ends_accepted g.S.Store c.args.conn.now c.transaction-tx.result.conn.now c.judge_all.new.tx.conn.now c.commit.new.self.0 (option_copied c.args.rounding) c.args.commands.now c.judge_all.new.verdicts.items
    (λ clean. c.is_autocommit.ensures.settled c.if-not-is_autocommit.false) c.transaction-tx.ensures.begun
    (rw c.in-Ok-Accepts.field-0-is at c.in-Ok-Accepts.ensures.judges) c.commit.ensures.survives c.commit.result c.commit.ensures.ok c.commit.ensures.err))

pub returns-in-Ok-Repeats-clause-applies : goal.returns-in-Ok-Repeats-clause-applies
returns-in-Ok-Repeats-clause-applies g c =
    let same : c.rollback.new.self.0 ≡ c.conn-in-Ok-Repeats-1.given.0 = search rules in
    subst (λ (h : _). AppliesAll (option_copied c.args.rounding) c.args.commands.now (state g.S.Store c.args.conn.now) (state g.S.Store h) c.judge_all.new.verdicts.items ending.Kept) same
    (ends_repeated g.S.Store c.args.conn.now c.transaction-tx.result.conn.now c.judge_all.new.tx.conn.now c.rollback.new.self.0 (option_copied c.args.rounding) c.args.commands.now c.judge_all.new.verdicts.items
    (λ clean. c.is_autocommit.ensures.settled c.if-not-is_autocommit.false) c.transaction-tx.ensures.begun
    c.rollback.ensures.undone c.rollback.ensures.survives (rw c.in-Ok-Repeats.field-0-is at c.in-Ok-Repeats.ensures.judges))

pub returns-in-Ok-Refuses-clause-applies : goal.returns-in-Ok-Refuses-clause-applies
returns-in-Ok-Refuses-clause-applies g c =
    let same : c.rollback-in-Ok-Refuses.new.self.0 ≡ c.conn-in-Ok-Refuses-1.given.0 = search rules in
    let last = state g.S.Store c.judge_all.new.tx.conn.now in
    let seen = state g.S.Store c.look.new.db.conn.now in
    let fin = state g.S.Store c.rollback-in-Ok-Refuses.new.self.0 in
    subst (λ (h : _). AppliesAll (option_copied c.args.rounding) c.args.commands.now (state g.S.Store c.args.conn.now) (state g.S.Store h) c.judge_all.new.verdicts.items ending.Dropped) same
    (ends_refused g.S.Store c.args.conn.now c.transaction-tx.result.conn.now c.judge_all.new.tx.conn.now c.rollback-in-Ok-Refuses.new.self.0 (option_copied c.args.rounding) c.args.commands.now c.judge_all.new.verdicts.items
    (λ clean. c.is_autocommit.ensures.settled c.if-not-is_autocommit.false) c.transaction-tx.ensures.begun
    (rolled_behind_look (λ (tx : _). state g.S.Store tx.conn.now) c.judge_all.new.tx c.look.new.db fin c.look.ensures.reads c.rollback-in-Ok-Refuses.ensures.survives c.rollback-in-Ok-Refuses.ensures.undone)
    (survives_both last seen fin c.look.ensures.crash c.rollback-in-Ok-Refuses.ensures.survives)
    (rw c.in-Ok-Refuses.field-0-is at c.in-Ok-Refuses.ensures.judges))

pub returns-in-Err-clause-applies : goal.returns-in-Err-clause-applies
returns-in-Err-clause-applies g c =
    let same : c.rollback-in-Err.new.self.0 ≡ c.conn-in-Err-1.given.0 = search rules in
    rw c.from.ensures
    (subst (λ (h : _). AppliesAll (option_copied c.args.rounding) c.args.commands.now (state g.S.Store c.args.conn.now) (state g.S.Store h) c.judge_all.new.verdicts.items (ending.Failed (store_fault_of c.in-Err.fault))) same
    (ends_failed g.S.Store c.args.conn.now c.transaction-tx.result.conn.now c.judge_all.new.tx.conn.now c.rollback-in-Err.new.self.0 (option_copied c.args.rounding) c.args.commands.now c.judge_all.new.verdicts.items
    (λ clean. c.is_autocommit.ensures.settled c.if-not-is_autocommit.false) c.transaction-tx.ensures.begun
    c.rollback-in-Err.ensures.undone c.rollback-in-Err.ensures.survives c.rollback-in-Err.ensures.ended c.in-Err.fault c.in-Err.ensures.judges))
