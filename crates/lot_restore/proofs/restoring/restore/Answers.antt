-- The transaction is committed, or rolled back.
use Rattle.std.proofs.Common.{◌≡◌, IfErr, IfOk, OnErr, arith, inl, inr, refl, rules, subst}
use Rattle.sqlite.specs.Held.{state}
use Rattle.sqlite.specs.State.{Survives}
use Rattle.lot_restore.specs.Restoring.{Fails, MayMake, RestoresDump, restored_outcome, terms_of}
use Rattle.lot_restore.specs.Stopped.{SaysSome}
use Rattle.lot_restore.specs.declared.restoring.Restored.TheVariants.{InPart, NotMade, Whole}
use Rattle.lot_restore.proofs.RestoreLemmas.{ends_crash, ends_failed, ends_ok, fails_whole, made_none}
use Rattle.lot_parts.proofs.ReadLemmas.{no_calls_fail}
use Rattle.lot_restore.proofs.StoppedLemmas.{outcome_reads, says_anyway, says_later, says_nothing}
use Rattle.lot_restore.proofs.WholeLemmas.{says_judged}
use Rattle.lot_restore.proofs.restoring.restore.Goals as goal

pub returns-in-Ok-NotMade-clause-restores : goal.returns-in-Ok-NotMade-clause-restores
returns-in-Ok-NotMade-clause-restores g c =
    let same : c.rollback.new.self.0 ≡ c.conn-1.given.0 = search rules in
    subst (λ h. RestoresDump (terms_of c.args.asked.now) (g.R.CountedRead.remaining c.args.reader.now) (g.W.CountedWrite.contents c.args.writer.now) (g.W.CountedWrite.contents c.judge_whole.new.writer) (state g.S.Store c.args.conn.now) (state g.S.Store h) NotMade) same
    (made_none g.S.Store c.args.conn.now c.judge_whole.new.tx.conn.now c.rollback.new.self.0 (terms_of c.args.asked.now) (g.R.CountedRead.remaining c.args.reader.now)
    (g.W.CountedWrite.contents c.args.writer.now) (g.W.CountedWrite.contents c.judge_whole.new.writer) c.in-Ok-NotMade.field-0 c.in-Ok-NotMade.ensures.judges
    (rw c.transaction-tx.ensures.begun at c.judge_whole.ensures.kept) c.in-Ok-NotMade.field-0-is
    (λ clean. c.is_autocommit-settled.ensures.settled (search rules)) (λ clean. omega (arith, clean, c.rollback.ensures.survives.clean)) c.rollback.ensures.undone)

pub returns-in-Err-clause-fails : goal.returns-in-Err-clause-fails
returns-in-Err-clause-fails g c =
    let same : c.rollback-in-Err.new.self.0 ≡ c.conn-in-Err-1.given.0 = search rules in
    subst (λ h. Fails (terms_of c.args.asked.now) (g.R.CountedRead.remaining c.args.reader.now) (state g.S.Store c.args.conn.now) (state g.S.Store h) (g.W.CountedWrite.calls c.judge_whole.new.writer) c.in-Err.fault) same
    (fails_whole g.S.Store c.args.conn.now c.judge_whole.new.tx.conn.now c.rollback-in-Err.new.self.0 (terms_of c.args.asked.now) (g.R.CountedRead.remaining c.args.reader.now)
    (g.W.CountedWrite.calls c.judge_whole.new.writer) c.in-Err.fault c.rollback-in-Err.ensures.survives c.rollback-in-Err.ensures.ended
    (rw c.transaction-tx.ensures.begun at c.in-Err.ensures.fails))

pub returns-in-Ok-Whole-clause-restores : goal.returns-in-Ok-Whole-clause-restores
returns-in-Ok-Whole-clause-restores g c =
    let same : c.commit.new.self.0 ≡ c.conn-in-Ok-Whole-1.given.0 = search rules in
    rw c.after_commit.ensures
    (subst (λ h. IfOk (restored_outcome Whole c.commit.result) (RestoresDump (terms_of c.args.asked.now) (g.R.CountedRead.remaining c.args.reader.now) (g.W.CountedWrite.contents c.args.writer.now) (g.W.CountedWrite.contents c.judge_whole.new.writer) (state g.S.Store c.args.conn.now) (state g.S.Store h))) same
    (ends_ok g.S.Store c.args.conn.now c.judge_whole.new.tx.conn.now c.commit.new.self.0 (terms_of c.args.asked.now) (g.R.CountedRead.remaining c.args.reader.now)
    (g.W.CountedWrite.contents c.args.writer.now) (g.W.CountedWrite.contents c.judge_whole.new.writer) Whole (rw c.in-Ok-Whole.field-0-is at c.in-Ok-Whole.ensures.judges)
    (rw c.transaction-tx.ensures.begun at c.judge_whole.ensures.kept) c.in-Ok-Whole.ensures.inside (rw c.transaction-tx.ensures.begun at c.judge_whole.ensures.crash) c.commit.ensures.survives
    (λ clean. c.is_autocommit-settled.ensures.settled (search rules)) (inl refl) c.commit.result c.commit.ensures.ok))

pub returns-in-Ok-Whole-clause-fails : goal.returns-in-Ok-Whole-clause-fails
returns-in-Ok-Whole-clause-fails g c =
    let same : c.commit.new.self.0 ≡ c.conn-in-Ok-Whole-1.given.0 = search rules in
    rw c.after_commit.ensures
    (subst (λ h. IfErr (restored_outcome Whole c.commit.result) (Fails (terms_of c.args.asked.now) (g.R.CountedRead.remaining c.args.reader.now) (state g.S.Store c.args.conn.now) (state g.S.Store h) (g.W.CountedWrite.calls c.judge_whole.new.writer))) same
    (ends_failed g.S.Store c.args.conn.now c.judge_whole.new.tx.conn.now c.commit.new.self.0 (terms_of c.args.asked.now) (g.R.CountedRead.remaining c.args.reader.now)
    (g.W.CountedWrite.contents c.args.writer.now) (g.W.CountedWrite.contents c.judge_whole.new.writer) Whole (rw c.in-Ok-Whole.field-0-is at c.in-Ok-Whole.ensures.judges)
    (rw c.transaction-tx.ensures.begun at c.judge_whole.ensures.kept) c.in-Ok-Whole.ensures.inside (rw c.transaction-tx.ensures.begun at c.judge_whole.ensures.crash) c.commit.ensures.survives
    (λ clean. c.is_autocommit-settled.ensures.settled (search rules)) (inl refl) c.commit.result (g.W.CountedWrite.calls c.judge_whole.new.writer) c.commit.ensures.err))

pub returns-in-Ok-Whole-clause-crash : goal.returns-in-Ok-Whole-clause-crash
returns-in-Ok-Whole-clause-crash g c =
    let same : c.commit.new.self.0 ≡ c.conn-in-Ok-Whole-1.given.0 = search rules in
    rw c.after_commit.ensures
    (subst (λ h. Survives (state g.S.Store c.args.conn.now) (state g.S.Store h) (MayMake (terms_of c.args.asked.now) (g.R.CountedRead.remaining c.args.reader.now) (restored_outcome Whole c.commit.result))) same
    (ends_crash g.S.Store c.args.conn.now c.judge_whole.new.tx.conn.now c.commit.new.self.0 (terms_of c.args.asked.now) (g.R.CountedRead.remaining c.args.reader.now)
    (g.W.CountedWrite.contents c.args.writer.now) (g.W.CountedWrite.contents c.judge_whole.new.writer) Whole (rw c.in-Ok-Whole.field-0-is at c.in-Ok-Whole.ensures.judges)
    (rw c.transaction-tx.ensures.begun at c.judge_whole.ensures.kept) c.in-Ok-Whole.ensures.inside (rw c.transaction-tx.ensures.begun at c.judge_whole.ensures.crash) c.commit.ensures.survives
    (λ clean. c.is_autocommit-settled.ensures.settled (search rules)) (inl refl) c.commit.result))

pub returns-in-Ok-InPart-clause-restores : goal.returns-in-Ok-InPart-clause-restores
returns-in-Ok-InPart-clause-restores g c =
    let same : c.commit-in-Ok-InPart.new.self.0 ≡ c.conn-in-Ok-InPart-1.given.0 = search rules in
    rw c.after_commit-in-Ok-InPart.ensures
    (subst (λ h. IfOk (restored_outcome InPart c.commit-in-Ok-InPart.result) (RestoresDump (terms_of c.args.asked.now) (g.R.CountedRead.remaining c.args.reader.now) (g.W.CountedWrite.contents c.args.writer.now) (g.W.CountedWrite.contents c.judge_whole.new.writer) (state g.S.Store c.args.conn.now) (state g.S.Store h))) same
    (ends_ok g.S.Store c.args.conn.now c.judge_whole.new.tx.conn.now c.commit-in-Ok-InPart.new.self.0 (terms_of c.args.asked.now) (g.R.CountedRead.remaining c.args.reader.now)
    (g.W.CountedWrite.contents c.args.writer.now) (g.W.CountedWrite.contents c.judge_whole.new.writer) InPart (rw c.in-Ok-InPart.field-0-is at c.in-Ok-InPart.ensures.judges)
    (rw c.transaction-tx.ensures.begun at c.judge_whole.ensures.kept) c.in-Ok-InPart.ensures.inside (rw c.transaction-tx.ensures.begun at c.judge_whole.ensures.crash) c.commit-in-Ok-InPart.ensures.survives
    (λ clean. c.is_autocommit-settled.ensures.settled (search rules)) (inr refl) c.commit-in-Ok-InPart.result c.commit-in-Ok-InPart.ensures.ok))

pub returns-in-Ok-InPart-clause-fails : goal.returns-in-Ok-InPart-clause-fails
returns-in-Ok-InPart-clause-fails g c =
    let same : c.commit-in-Ok-InPart.new.self.0 ≡ c.conn-in-Ok-InPart-1.given.0 = search rules in
    rw c.after_commit-in-Ok-InPart.ensures
    (subst (λ h. IfErr (restored_outcome InPart c.commit-in-Ok-InPart.result) (Fails (terms_of c.args.asked.now) (g.R.CountedRead.remaining c.args.reader.now) (state g.S.Store c.args.conn.now) (state g.S.Store h) (g.W.CountedWrite.calls c.judge_whole.new.writer))) same
    (ends_failed g.S.Store c.args.conn.now c.judge_whole.new.tx.conn.now c.commit-in-Ok-InPart.new.self.0 (terms_of c.args.asked.now) (g.R.CountedRead.remaining c.args.reader.now)
    (g.W.CountedWrite.contents c.args.writer.now) (g.W.CountedWrite.contents c.judge_whole.new.writer) InPart (rw c.in-Ok-InPart.field-0-is at c.in-Ok-InPart.ensures.judges)
    (rw c.transaction-tx.ensures.begun at c.judge_whole.ensures.kept) c.in-Ok-InPart.ensures.inside (rw c.transaction-tx.ensures.begun at c.judge_whole.ensures.crash) c.commit-in-Ok-InPart.ensures.survives
    (λ clean. c.is_autocommit-settled.ensures.settled (search rules)) (inr refl) c.commit-in-Ok-InPart.result (g.W.CountedWrite.calls c.judge_whole.new.writer) c.commit-in-Ok-InPart.ensures.err))

pub returns-in-Ok-InPart-clause-crash : goal.returns-in-Ok-InPart-clause-crash
returns-in-Ok-InPart-clause-crash g c =
    let same : c.commit-in-Ok-InPart.new.self.0 ≡ c.conn-in-Ok-InPart-1.given.0 = search rules in
    rw c.after_commit-in-Ok-InPart.ensures
    (subst (λ h. Survives (state g.S.Store c.args.conn.now) (state g.S.Store h) (MayMake (terms_of c.args.asked.now) (g.R.CountedRead.remaining c.args.reader.now) (restored_outcome InPart c.commit-in-Ok-InPart.result))) same
    (ends_crash g.S.Store c.args.conn.now c.judge_whole.new.tx.conn.now c.commit-in-Ok-InPart.new.self.0 (terms_of c.args.asked.now) (g.R.CountedRead.remaining c.args.reader.now)
    (g.W.CountedWrite.contents c.args.writer.now) (g.W.CountedWrite.contents c.judge_whole.new.writer) InPart (rw c.in-Ok-InPart.field-0-is at c.in-Ok-InPart.ensures.judges)
    (rw c.transaction-tx.ensures.begun at c.judge_whole.ensures.kept) c.in-Ok-InPart.ensures.inside (rw c.transaction-tx.ensures.begun at c.judge_whole.ensures.crash) c.commit-in-Ok-InPart.ensures.survives
    (λ clean. c.is_autocommit-settled.ensures.settled (search rules)) (inr refl) c.commit-in-Ok-InPart.result))

pub returns-in-Ok-Whole-clause-read : goal.returns-in-Ok-Whole-clause-read
returns-in-Ok-Whole-clause-read g c =
    rw c.after_commit.ensures (outcome_reads Whole c.commit.result _ c.in-Ok-Whole.ensures.read)

pub returns-in-Ok-Whole-clause-said : goal.returns-in-Ok-Whole-clause-said
returns-in-Ok-Whole-clause-said g c =
    let same : c.commit.new.self.0 ≡ c.conn-in-Ok-Whole-1.given.0 = search rules in
    subst (λ h. OnErr c.after_commit.result (SaysSome c.args.asked.now.without.now (g.R.CountedRead.remaining c.args.reader.now) (g.W.CountedWrite.contents c.args.writer.now) (g.W.CountedWrite.contents c.judge_whole.new.writer) (state g.S.Store h))) same
    (says_anyway c.after_commit.result _
    (says_later _ _ _ _ (state g.S.Store c.judge_whole.new.tx.conn.now) _ (λ clean. omega (arith, clean, c.commit.ensures.survives.clean))
    (says_judged _ _ _ _ _ _ c.in-Ok-Whole.ensures.judges)))

pub returns-in-Ok-InPart-clause-read : goal.returns-in-Ok-InPart-clause-read
returns-in-Ok-InPart-clause-read g c =
    rw c.after_commit-in-Ok-InPart.ensures (outcome_reads InPart c.commit-in-Ok-InPart.result _ c.in-Ok-InPart.ensures.read)

pub returns-in-Ok-InPart-clause-said : goal.returns-in-Ok-InPart-clause-said
returns-in-Ok-InPart-clause-said g c =
    let same : c.commit-in-Ok-InPart.new.self.0 ≡ c.conn-in-Ok-InPart-1.given.0 = search rules in
    subst (λ h. OnErr c.after_commit-in-Ok-InPart.result (SaysSome c.args.asked.now.without.now (g.R.CountedRead.remaining c.args.reader.now) (g.W.CountedWrite.contents c.args.writer.now) (g.W.CountedWrite.contents c.judge_whole.new.writer) (state g.S.Store h))) same
    (says_anyway c.after_commit-in-Ok-InPart.result _
    (says_later _ _ _ _ (state g.S.Store c.judge_whole.new.tx.conn.now) _ (λ clean. omega (arith, clean, c.commit-in-Ok-InPart.ensures.survives.clean))
    (says_judged _ _ _ _ _ _ c.in-Ok-InPart.ensures.judges)))

pub returns-in-Err-clause-said : goal.returns-in-Err-clause-said
returns-in-Err-clause-said g c =
    let same : c.rollback-in-Err.new.self.0 ≡ c.conn-in-Err-1.given.0 = search rules in
    subst (λ h. SaysSome c.args.asked.now.without.now (g.R.CountedRead.remaining c.args.reader.now) (g.W.CountedWrite.contents c.args.writer.now) (g.W.CountedWrite.contents c.judge_whole.new.writer) (state g.S.Store h)) same
    (says_later _ _ _ _ (state g.S.Store c.judge_whole.new.tx.conn.now) _ (λ clean. omega (arith, clean, c.rollback-in-Err.ensures.survives.clean))
    c.in-Err.ensures.said)

pub returns-then-not-is_empty-clause-read : goal.returns-then-not-is_empty-clause-read
returns-then-not-is_empty-clause-read g c = no_calls_fail _

pub returns-then-not-is_empty-clause-said : goal.returns-then-not-is_empty-clause-said
returns-then-not-is_empty-clause-said g c = says_nothing _ _ _ _
