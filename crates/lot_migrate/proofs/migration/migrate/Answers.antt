use Rattle.std.proofs.Common.{◌≡◌, ◌∙◌, inr, Err, arith, subst, sym}
use Rattle.sqlite.specs.Held.{state}
use Rattle.sqlite.specs.State.{HasCleanDisk}
use Rattle.lot_table.proofs.BookLemmas.{if_ok}
use Rattle.lot_store.specs.Create.{TellsOf}
use Rattle.lot_store.specs.declared.fault.AdoptFault.{AdoptFault}
use Rattle.lot_store.specs.declared.fault.AdoptFault.TheVariants.{OlderEdition}
use Rattle.lot_migrate.proofs.MigrateLemmas.{Tells, both_err, both_ok, first_refusal, first_taken, is_older, kept_then, leaves_then, migrates_then, older_is, older_same, refused_then, second_is_current, second_refusal, stands_then}
use Rattle.lot_migrate.proofs.migration.migrate.Goals as goal

pub returns-in-None-clause-migrates : goal.returns-in-None-clause-migrates
returns-in-None-clause-migrates g c =
    let old = state g.S.Store c.args.conn in
    let mid = state g.S.Store c.in-Err.field-0.conn in
    let why : c.in-Err.field-0.fault ≡ OlderEdition = is_older c.in-Err.field-0.fault (sym c.refusal_of.ensures ∙ c.in-None.is) in
    let tells = λ (clean : HasCleanDisk mid). subst (λ (w : AdoptFault). TellsOf old mid (Err w)) why (c.in-Err.ensures.tells_err clean) in
    both_ok c.take_over.result _ _ _
    (λ new taken survives clean.
    let was : HasCleanDisk mid = omega (arith, clean, survives.clean) in
    migrates_then old mid (older_same old mid (tells was)) (state g.S.Store new) (tells was) (taken clean))
    c.take_over.ensures.taken c.take_over.ensures.crash_ok

pub returns-in-None-clause-refused : goal.returns-in-None-clause-refused
returns-in-None-clause-refused g c =
    let old = state g.S.Store c.args.conn in
    let mid = state g.S.Store c.in-Err.field-0.conn in
    let why : c.in-Err.field-0.fault ≡ OlderEdition = is_older c.in-Err.field-0.fault (sym c.refusal_of.ensures ∙ c.in-None.is) in
    let tells = λ (clean : HasCleanDisk mid). subst (λ (w : AdoptFault). TellsOf old mid (Err w)) why (c.in-Err.ensures.tells_err clean) in
    both_err c.take_over.result _ _ _
    (λ left refused survives clean.
    let was : HasCleanDisk mid = omega (arith, clean, survives.clean) in
    inr (
      older_is old mid (tells was),
      refused_then old mid (older_same old mid (tells was)) (state g.S.Store left.conn) left.fault
          c.in-Err.ensures.crash_err (refused clean),
    ))
    c.take_over.ensures.refused c.take_over.ensures.crash_err

pub returns-in-None-clause-of_first : goal.returns-in-None-clause-of_first
returns-in-None-clause-of_first g c =
    let old = state g.S.Store c.args.conn in
    let mid = state g.S.Store c.in-Err.field-0.conn in
    let why : c.in-Err.field-0.fault ≡ OlderEdition = is_older c.in-Err.field-0.fault (sym c.refusal_of.ensures ∙ c.in-None.is) in
    let tells = λ (clean : HasCleanDisk mid). subst (λ (w : AdoptFault). TellsOf old mid (Err w)) why (c.in-Err.ensures.tells_err clean) in
    both_err c.take_over.result _ _ _
    (λ left refused survives clean entries first.
    let was : HasCleanDisk mid = omega (arith, clean, survives.clean) in
    first_taken mid (state g.S.Store left.conn) left.fault (refused clean) entries
    (stands_then old mid (older_same old mid (tells was)) entries first))
    c.take_over.ensures.refused c.take_over.ensures.crash_err

pub returns-in-None-clause-of_second : goal.returns-in-None-clause-of_second
returns-in-None-clause-of_second g c =
    let old = state g.S.Store c.args.conn in
    let mid = state g.S.Store c.in-Err.field-0.conn in
    let why : c.in-Err.field-0.fault ≡ OlderEdition = is_older c.in-Err.field-0.fault (sym c.refusal_of.ensures ∙ c.in-None.is) in
    both_err c.take_over.result _ _ _
    (λ left refused survives clean entries stands.
    let was : HasCleanDisk mid = omega (arith, clean, survives.clean) in
    absurd (second_is_current old (subst (Tells old) why (c.in-Err.ensures.refused was)) entries stands))
    c.take_over.ensures.refused c.take_over.ensures.crash_err

pub returns-in-None-clause-kept : goal.returns-in-None-clause-kept
returns-in-None-clause-kept g c =
    let old = state g.S.Store c.args.conn in
    let mid = state g.S.Store c.in-Err.field-0.conn in
    let why : c.in-Err.field-0.fault ≡ OlderEdition = is_older c.in-Err.field-0.fault (sym c.refusal_of.ensures ∙ c.in-None.is) in
    let tells = λ (clean : HasCleanDisk mid). subst (λ (w : AdoptFault). TellsOf old mid (Err w)) why (c.in-Err.ensures.tells_err clean) in
    both_err c.take_over.result _ _ _
    (λ left kept survives clean.
    let was : HasCleanDisk mid = omega (arith, clean, survives.clean) in
    kept_then old mid (older_same old mid (tells was)) (state g.S.Store left.conn) (kept clean))
    c.take_over.ensures.kept c.take_over.ensures.crash_err

pub returns-in-None-clause-crash_ok : goal.returns-in-None-clause-crash_ok
returns-in-None-clause-crash_ok g c =
    let old = state g.S.Store c.args.conn in
    let mid = state g.S.Store c.in-Err.field-0.conn in
    let why : c.in-Err.field-0.fault ≡ OlderEdition = is_older c.in-Err.field-0.fault (sym c.refusal_of.ensures ∙ c.in-None.is) in
    let tells = λ (clean : HasCleanDisk mid). subst (λ (w : AdoptFault). TellsOf old mid (Err w)) why (c.in-Err.ensures.tells_err clean) in
    if_ok c.take_over.result _ _ (λ new survives. leaves_then old mid (state g.S.Store new) tells c.in-Err.ensures.crash_err survives)
    c.take_over.ensures.crash_ok

pub returns-in-None-clause-crash_err : goal.returns-in-None-clause-crash_err
returns-in-None-clause-crash_err g c =
    let old = state g.S.Store c.args.conn in
    let mid = state g.S.Store c.in-Err.field-0.conn in
    let why : c.in-Err.field-0.fault ≡ OlderEdition = is_older c.in-Err.field-0.fault (sym c.refusal_of.ensures ∙ c.in-None.is) in
    let tells = λ (clean : HasCleanDisk mid). subst (λ (w : AdoptFault). TellsOf old mid (Err w)) why (c.in-Err.ensures.tells_err clean) in
    both_err c.take_over.result _ _ _
    (λ left survives _. leaves_then old mid (state g.S.Store left.conn) tells c.in-Err.ensures.crash_err survives)
    c.take_over.ensures.crash_err c.take_over.ensures.crash_err

pub returns-in-Some-clause-of_first : goal.returns-in-Some-clause-of_first
returns-in-Some-clause-of_first g c clean entries first =
    let old = state g.S.Store c.args.conn in
    first_refusal old (state g.S.Store c.in-Err.field-0.conn) c.in-Err.field-0.fault c.in-Some.fault (c.in-Err.ensures.tells_err clean)
    (sym c.in-Some.is ∙ c.refusal_of.ensures) c.requires.unlimited entries first

pub returns-in-Some-clause-of_second : goal.returns-in-Some-clause-of_second
returns-in-Some-clause-of_second g c clean entries stands =
    let old = state g.S.Store c.args.conn in
    second_refusal old (state g.S.Store c.in-Err.field-0.conn) c.in-Err.field-0.fault c.in-Some.fault (c.in-Err.ensures.tells_err clean)
    (sym c.in-Some.is ∙ c.refusal_of.ensures) (c.in-Err.ensures.refused clean) entries stands
