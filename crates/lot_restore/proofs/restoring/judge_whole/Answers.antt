-- The tables are made, and the whole dump is judged; or why not.
use Rattle.std.proofs.Common.{◌∙◌, Bor, Err, List, None, ap, flat_map, map, refl, subst}
use Rattle.std.specs.Io.KnownBytes.{Appends}
use Rattle.std.proofs.lemmas.Result.{err_from_is_err_and}
use Rattle.sqlite.specs.Held.{state}
use Rattle.lot_parts.specs.Commands.{front_of}
use Rattle.lot_report.specs.Written.{WritesLine}
use Rattle.lot_without.specs.declared.without.Without.{Without}
use Rattle.lot_restore.specs.Lines.{unmet_line}
use Rattle.lot_restore.specs.Restoring.{outcome_of, terms_of}
use Rattle.lot_restore.specs.declared.restoration.Refused.TheVariants as refused
use Rattle.lot_restore.specs.declared.restoration.Restoration.{Restoration}
use Rattle.lot_restore.specs.declared.restoring.Restored.{Restored}
use Rattle.lot_parts.proofs.ReadLemmas.{no_calls_fail, no_more_fail}
use Rattle.lot_restore.specs.declared.fault.RestoreFault.TheVariants.{Text}
use Rattle.lot_restore.proofs.StoppedLemmas.{print_reads, reads_on, says_nothing}
use Rattle.lot_restore.proofs.WholeLemmas.{begin_fails, compare_fails, inside_fails, judges_whole, made_fresh, none_so_far, says_compared, says_unmet}
use Rattle.lot_restore.proofs.restoring.judge_whole.Goals as goal

pub returns-in_err-begin-clause-fails : goal.returns-in_err-begin-clause-fails
returns-in_err-begin-clause-fails g c =
    let fault = err_from_is_err_and c.from_residual.result c.from_residual.ensures.1 in
    rw (fault.1, fault.2)
    (begin_fails (terms_of c.args.asked.now) (g.R.CountedRead.remaining c.args.reader.now) (state g.S.Store c.args.tx.now.conn.now) (state g.S.Store c.begin.new.tx.conn.now)
    (g.W.CountedWrite.calls c.args.writer.now) c.in_err-begin.field-0.0 c.requires.live c.requires.fresh c.in_err-begin.ensures.refused)

pub returns-in_err-sum-clause-fails : goal.returns-in_err-sum-clause-fails
returns-in_err-sum-clause-fails g c =
    let fault = err_from_is_err_and c.from_residual-in_err-sum.result c.from_residual-in_err-sum.ensures.1 in
    let stands = made_fresh (state g.S.Store c.args.tx.now.conn.now) (state g.S.Store c.begin.new.tx.conn.now) c.requires.fresh c.in_ok-begin.ensures.made c.in_ok-begin.ensures.opened c.begin.ensures.kept in
    let so = none_so_far c.in_ok-head.head.place (g.W.CountedWrite.contents c.args.writer.now) _ (state g.S.Store c.begin.new.tx.conn.now) stands refl refl c.in_ok-all_of.ensures refl in
    rw (fault.1, fault.2)
    (inside_fails (terms_of c.args.asked.now) (g.R.CountedRead.remaining c.args.reader.now) (state g.S.Store c.args.tx.now.conn.now) (state g.S.Store c.begin.new.tx.conn.now)
    (state g.S.Store c.judge_all.new.tx.conn.now) (g.W.CountedWrite.calls c.judge_all.new.writer) c.in_err-sum.field-0.0 c.begin.ensures.crash c.judge_all.ensures.crash
    (c.in_err-sum.ensures.fails c.in_ok-head.head.place (g.R.CountedRead.remaining c.args.reader.now) (g.W.CountedWrite.contents c.args.writer.now)
    (front_of c.in_ok-head.head c.in_ok-head.ensures.begins.0) _ c.in_ok-head.ensures.begins.1 so))

pub returns-in_err-compare-clause-fails : goal.returns-in_err-compare-clause-fails
returns-in_err-compare-clause-fails g c =
    let fault = err_from_is_err_and c.from_residual-in_err-compare.result c.from_residual-in_err-compare.ensures.1 in
    let stands = made_fresh (state g.S.Store c.args.tx.now.conn.now) (state g.S.Store c.begin.new.tx.conn.now) c.requires.fresh c.in_ok-begin.ensures.made c.in_ok-begin.ensures.opened c.begin.ensures.kept in
    let made : Restoration = record { restorer = record { kept = None; place = c.in_ok-head.head.place }; without = c.args.asked.now.without; unmet = c.in_ok-all_of.field-0; refused = refused.None } in
    let so = none_so_far c.in_ok-head.head.place (g.W.CountedWrite.contents c.args.writer.now) made (state g.S.Store c.begin.new.tx.conn.now) stands refl refl c.in_ok-all_of.ensures refl in
    rw (fault.1, fault.2)
    (compare_fails (terms_of c.args.asked.now) (g.R.CountedRead.remaining c.args.reader.now) c.in_ok-head.head
    (record { known = g.R.CountedRead.remaining c.begin-2.new.reader; reading = c.in_ok-head.commands.dump; written = g.W.CountedWrite.contents c.args.writer.now; made = made; state = state g.S.Store c.begin.new.tx.conn.now })
    (record { known = g.R.CountedRead.remaining c.judge_all.new.reader; reading = c.judge_all.new.commands.dump; written = g.W.CountedWrite.contents c.judge_all.new.writer; made = c.judge_all.new.restoration; state = state g.S.Store c.judge_all.new.tx.conn.now })
    c.in_ok-head.ensures.begins so refl c.judge_all.ensures.terms c.in_ok-sum.sum c.in_ok-sum.ensures.judges c.in_err-compare.field-0.0 c.in_err-compare.ensures.fault)

pub returns-clause-judges : goal.returns-clause-judges
returns-clause-judges g c =
    let stands = made_fresh (state g.S.Store c.args.tx.now.conn.now) (state g.S.Store c.begin.new.tx.conn.now) c.requires.fresh c.in_ok-begin.ensures.made c.in_ok-begin.ensures.opened c.begin.ensures.kept in
    let made : Restoration = record { restorer = record { kept = None; place = c.in_ok-head.head.place }; without = c.args.asked.now.without; unmet = c.in_ok-all_of.field-0; refused = refused.None } in
    let so = none_so_far c.in_ok-head.head.place (g.W.CountedWrite.contents c.args.writer.now) made (state g.S.Store c.begin.new.tx.conn.now) stands refl refl c.in_ok-all_of.ensures refl in
    judges_whole (terms_of c.args.asked.now) (g.R.CountedRead.remaining c.args.reader.now) c.in_ok-head.head
    (record { known = g.R.CountedRead.remaining c.begin-2.new.reader; reading = c.in_ok-head.commands.dump; written = g.W.CountedWrite.contents c.args.writer.now; made = made; state = state g.S.Store c.begin.new.tx.conn.now })
    (record { known = g.R.CountedRead.remaining c.judge_all.new.reader; reading = c.judge_all.new.commands.dump; written = g.W.CountedWrite.contents c.judge_all.new.writer; made = c.judge_all.new.restoration; state = state g.S.Store c.judge_all.new.tx.conn.now })
    c.in_ok-head.ensures.begins so refl c.judge_all.ensures.terms c.in_ok-sum.sum c.in_ok-sum.ensures.judges c.outcome.result
    (g.W.CountedWrite.contents c.print_all_unmet.new.writer) c.in_ok-compare.ensures.unchanged
    (c.outcome.ensures ∙ ap (λ (u : List (Bor Without)). outcome_of c.args.asked.now.tolerance (map (λ it. it.now) u) c.judge_all.new.restoration.refused) c.deref-2.ensures.value)
    (subst (λ (u : List (Bor Without)). Appends (g.W.CountedWrite.contents c.judge_all.new.writer) (g.W.CountedWrite.contents c.print_all_unmet.new.writer) (flat_map (λ it. unmet_line it.now) u))
    c.deref.ensures.value c.in_ok-print_all_unmet.ensures.bytes)

pub returns-in_err-begin-clause-read : goal.returns-in_err-begin-clause-read
returns-in_err-begin-clause-read g c =
    let fault = err_from_is_err_and c.from_residual.result c.from_residual.ensures.1 in
    rw (fault.1, fault.2)
    (no_calls_fail _)

pub returns-in_err-begin-clause-said : goal.returns-in_err-begin-clause-said
returns-in_err-begin-clause-said g c =
    let fault = err_from_is_err_and c.from_residual.result c.from_residual.ensures.1 in
    rw (fault.1)
    (says_nothing _ _ _ _)

pub returns-in_err-head-clause-read : goal.returns-in_err-head-clause-read
returns-in_err-head-clause-read g c =
    let fault = err_from_is_err_and c.from_residual-in_err-head.result c.from_residual-in_err-head.ensures.1 in
    rw (fault.1, fault.2)
    (c.in_err-head.ensures.cause)

pub returns-in_err-head-clause-said : goal.returns-in_err-head-clause-said
returns-in_err-head-clause-said g c =
    let fault = err_from_is_err_and c.from_residual-in_err-head.result c.from_residual-in_err-head.ensures.1 in
    rw (fault.1)
    (says_nothing _ _ _ _)

pub returns-in_err-all_of-clause-read : goal.returns-in_err-all_of-clause-read
returns-in_err-all_of-clause-read g c =
    let fault = err_from_is_err_and c.from_residual-in_err-all_of.result c.from_residual-in_err-all_of.ensures.1 in
    rw (fault.1, fault.2)
    (c.in_ok-head.ensures.calls)

pub returns-in_err-all_of-clause-said : goal.returns-in_err-all_of-clause-said
returns-in_err-all_of-clause-said g c =
    let fault = err_from_is_err_and c.from_residual-in_err-all_of.result c.from_residual-in_err-all_of.ensures.1 in
    rw (fault.1)
    (says_nothing _ _ _ _)

pub returns-in_err-sum-clause-read : goal.returns-in_err-sum-clause-read
returns-in_err-sum-clause-read g c =
    let fault = err_from_is_err_and c.from_residual-in_err-sum.result c.from_residual-in_err-sum.ensures.1 in
    rw (fault.1, fault.2)
    (reads_on {A = Unit {0}} _ _ _ (Err c.in_err-sum.field-0.0) c.in_ok-head.ensures.calls c.in_err-sum.ensures.read)

pub returns-in_err-sum-clause-said : goal.returns-in_err-sum-clause-said
returns-in_err-sum-clause-said g c =
    let fault = err_from_is_err_and c.from_residual-in_err-sum.result c.from_residual-in_err-sum.ensures.1 in
    let stands = made_fresh (state g.S.Store c.args.tx.now.conn.now) (state g.S.Store c.begin.new.tx.conn.now) c.requires.fresh c.in_ok-begin.ensures.made c.in_ok-begin.ensures.opened c.begin.ensures.kept in
    let made : Restoration = record { restorer = record { kept = None; place = c.in_ok-head.head.place }; without = c.args.asked.now.without; unmet = c.in_ok-all_of.field-0; refused = refused.None } in
    let so = none_so_far c.in_ok-head.head.place (g.W.CountedWrite.contents c.args.writer.now) made (state g.S.Store c.begin.new.tx.conn.now) stands refl refl c.in_ok-all_of.ensures refl in
    rw (fault.1)
    (c.in_err-sum.ensures.said c.in_ok-head.head.place (g.R.CountedRead.remaining c.args.reader.now) (g.W.CountedWrite.contents c.args.writer.now)
    (front_of c.in_ok-head.head c.in_ok-head.ensures.begins.0) _ refl c.in_ok-head.ensures.begins.1 so)

pub returns-in_err-compare-clause-read : goal.returns-in_err-compare-clause-read
returns-in_err-compare-clause-read g c =
    let fault = err_from_is_err_and c.from_residual-in_err-compare.result c.from_residual-in_err-compare.ensures.1 in
    rw (fault.1, fault.2)
    (no_more_fail _ _ _ c.in_ok-head.ensures.calls c.in_ok-sum.ensures.read)

pub returns-in_err-compare-clause-said : goal.returns-in_err-compare-clause-said
returns-in_err-compare-clause-said g c =
    let fault = err_from_is_err_and c.from_residual-in_err-compare.result c.from_residual-in_err-compare.ensures.1 in
    let stands = made_fresh (state g.S.Store c.args.tx.now.conn.now) (state g.S.Store c.begin.new.tx.conn.now) c.requires.fresh c.in_ok-begin.ensures.made c.in_ok-begin.ensures.opened c.begin.ensures.kept in
    let made : Restoration = record { restorer = record { kept = None; place = c.in_ok-head.head.place }; without = c.args.asked.now.without; unmet = c.in_ok-all_of.field-0; refused = refused.None } in
    let so = none_so_far c.in_ok-head.head.place (g.W.CountedWrite.contents c.args.writer.now) made (state g.S.Store c.begin.new.tx.conn.now) stands refl refl c.in_ok-all_of.ensures refl in
    rw (fault.1)
    (says_compared (terms_of c.args.asked.now) (g.R.CountedRead.remaining c.args.reader.now) c.in_ok-head.head
    (record { known = g.R.CountedRead.remaining c.begin-2.new.reader; reading = c.in_ok-head.commands.dump; written = g.W.CountedWrite.contents c.args.writer.now; made = made; state = state g.S.Store c.begin.new.tx.conn.now })
    (record { known = g.R.CountedRead.remaining c.judge_all.new.reader; reading = c.judge_all.new.commands.dump; written = g.W.CountedWrite.contents c.judge_all.new.writer; made = c.judge_all.new.restoration; state = state g.S.Store c.judge_all.new.tx.conn.now })
    c.in_ok-head.ensures.begins so refl c.judge_all.ensures.terms c.in_ok-sum.sum c.in_ok-sum.ensures.judges)

pub returns-in_err-print_all_unmet-clause-read : goal.returns-in_err-print_all_unmet-clause-read
returns-in_err-print_all_unmet-clause-read g c =
    let fault = err_from_is_err_and c.from_residual-in_err-print_all_unmet.result c.from_residual-in_err-print_all_unmet.ensures.1 in
    rw (fault.1, fault.2)
    (print_reads Restored c.in_err-print_all_unmet.field-0.0 _ (no_more_fail _ _ _ c.in_ok-head.ensures.calls c.in_ok-sum.ensures.read))

pub returns-in_err-print_all_unmet-clause-said : goal.returns-in_err-print_all_unmet-clause-said
returns-in_err-print_all_unmet-clause-said g c =
    let fault = err_from_is_err_and c.from_residual-in_err-print_all_unmet.result c.from_residual-in_err-print_all_unmet.ensures.1 in
    let stands = made_fresh (state g.S.Store c.args.tx.now.conn.now) (state g.S.Store c.begin.new.tx.conn.now) c.requires.fresh c.in_ok-begin.ensures.made c.in_ok-begin.ensures.opened c.begin.ensures.kept in
    let made : Restoration = record { restorer = record { kept = None; place = c.in_ok-head.head.place }; without = c.args.asked.now.without; unmet = c.in_ok-all_of.field-0; refused = refused.None } in
    let so = none_so_far c.in_ok-head.head.place (g.W.CountedWrite.contents c.args.writer.now) made (state g.S.Store c.begin.new.tx.conn.now) stands refl refl c.in_ok-all_of.ensures refl in
    rw (fault.1)
    (says_unmet (terms_of c.args.asked.now) (g.R.CountedRead.remaining c.args.reader.now) c.in_ok-head.head
    (record { known = g.R.CountedRead.remaining c.begin-2.new.reader; reading = c.in_ok-head.commands.dump; written = g.W.CountedWrite.contents c.args.writer.now; made = made; state = state g.S.Store c.begin.new.tx.conn.now })
    (record { known = g.R.CountedRead.remaining c.judge_all.new.reader; reading = c.judge_all.new.commands.dump; written = g.W.CountedWrite.contents c.judge_all.new.writer; made = c.judge_all.new.restoration; state = state g.S.Store c.judge_all.new.tx.conn.now })
    c.in_ok-head.ensures.begins so refl c.judge_all.ensures.terms c.in_ok-sum.sum c.in_ok-sum.ensures.judges
    (g.W.CountedWrite.contents c.print_all_unmet.new.writer) c.in_err-print_all_unmet.field-0.0
    (subst (λ (u : List (Bor Without)). WritesLine (g.W.CountedWrite.contents c.judge_all.new.writer) (g.W.CountedWrite.contents c.print_all_unmet.new.writer) (Err c.in_err-print_all_unmet.field-0.0) (flat_map (λ it. unmet_line it.now) u))
    c.deref.ensures.value c.in_err-print_all_unmet.ensures.bytes))

pub returns-clause-read : goal.returns-clause-read
returns-clause-read g c = no_more_fail _ _ _ c.in_ok-head.ensures.calls c.in_ok-sum.ensures.read
