-- The four steps, one after another.
use Rattle.lot_book.specs.Facts.{Facts}
use Rattle.lot_view.specs.View.{known_with_openings}
use Rattle.lot_load.proofs.ReadLemmas.{HasRead, if_ok, reads_first, reads_next, tells_last}
use Rattle.lot_rows.proofs.StateLemmas.{early, has_still, same_then}
use Rattle.lot_load.specs.Known.{KnowsDeclared, KnowsEach, KnowsPair, KnowsPlain, KnowsStanding, KnowsTouched, Learns, said_by}
use Rattle.lot_load.proofs.LearnLemmas.{both_stay, declared_stays, each_stays, learns_as, learns_both, pair_stays, standing_stays}
use Rattle.lot_view.specs.declared.touched.Touched.{Touched}
use Rattle.lot_load.proofs.learn.learn_touched.Goals as goal

pub returns-clause-teaches : goal.returns-clause-teaches
returns-clause-teaches g c =
    let touched : Touched = c.args.touched.now in
    let p : Facts → Facts → Type 0 = KnowsEach KnowsStanding touched.accounts.keys in
    let q : Facts → Facts → Type 0 = KnowsEach KnowsDeclared touched.declared.keys in
    let r : Facts → Facts → Type 0 = KnowsEach KnowsPair touched.pairs.keys in
    let s : Facts → Facts → Type 0 = KnowsEach KnowsPlain touched.plain.keys in
    let pq : Facts → Facts → Type 0 = λ book known. p book known × q book known in
    let pqr : Facts → Facts → Type 0 = λ book known. pq book known × r book known in
    let stays_p = each_stays KnowsStanding standing_stays touched.accounts.keys in
    let stays_q = each_stays KnowsDeclared declared_stays touched.declared.keys in
    let stays_r = each_stays KnowsPair pair_stays touched.pairs.keys in
    let s0 = g.D.Queryable.shown c.args.conn.now in
    let s1 = g.D.Queryable.shown c.learn_accounts.new.conn in
    let s2 = g.D.Queryable.shown c.learn_commodities.new.conn in
    let s3 = g.D.Queryable.shown c.learn_pairs.new.conn in
    let s4 = g.D.Queryable.shown c.learn_all_plain.new.conn in
    let v0 = known_with_openings c.args.view.now in
    let v1 = known_with_openings c.learn_accounts.new.view in
    let v2 = known_with_openings c.learn_commodities.new.view in
    let v3 = known_with_openings c.learn_pairs.new.view in
    let v4 = known_with_openings c.learn_all_plain.new.view in
    let one : HasRead (λ entries. Learns p (said_by entries) v0 v1) s0 s1 =
    reads_first _ _ _ (λ entries. Learns p (said_by entries) v0 v1) s0 s1 c.in_ok-learn_accounts.field-0 c.in_ok-learn_accounts.ensures.teaches
    (λ tables entries book stand good is. is entries book stand) in
    let two : HasRead (λ entries. Learns pq (said_by entries) v0 v2) s0 s2 =
    reads_next _ _ _ (λ entries. Learns p (said_by entries) v0 v1) (λ entries. Learns pq (said_by entries) v0 v2) s0 s1 s2
    c.in_ok-learn_commodities.field-0 one c.in_ok-learn_commodities.ensures.teaches
    (λ tables entries book stand was good is. learns_both p q (said_by entries) v0 v1 v2 stays_p was (is entries book stand)) in
    let three : HasRead (λ entries. Learns pqr (said_by entries) v0 v3) s0 s3 =
    reads_next _ _ _ (λ entries. Learns pq (said_by entries) v0 v2) (λ entries. Learns pqr (said_by entries) v0 v3) s0 s2 s3
    c.in_ok-learn_pairs.field-0 two c.in_ok-learn_pairs.ensures.teaches
    (λ tables entries book stand was good is. learns_both pq r (said_by entries) v0 v2 v3 (both_stay p q stays_p stays_q) was (is entries book stand)) in
    tells_last (λ entries. Learns pqr (said_by entries) v0 v3) (λ answer entries. Learns s (said_by entries) v3 v4) _ s0 s3 s4 c.learn_all_plain.result three
    c.learn_all_plain.ensures.teaches
    (λ entries answer was own.
    learns_as (λ book known. pqr book known × s book known) (KnowsTouched touched) (said_by entries) v0 v4
    (λ _ part knows. (knows.0.0.0, knows.0.0.1, knows.0.1, knows.1))
    (learns_both pqr s (said_by entries) v0 v3 v4 (both_stay pq r (both_stay p q stays_p stays_q) stays_r) was own))

pub returns-clause-paired : goal.returns-clause-paired
returns-clause-paired g c clean =
    let s0 = g.D.Queryable.shown c.args.conn.now in
    let s1 = g.D.Queryable.shown c.learn_accounts.new.conn in
    let s2 = g.D.Queryable.shown c.learn_commodities.new.conn in
    let s3 = g.D.Queryable.shown c.learn_pairs.new.conn in
    let s4 = g.D.Queryable.shown c.learn_all_plain.new.conn in
    let at3 = early s3 s4 c.learn_all_plain.ensures.teaches.crash clean in
    let at2 = early s2 s3 c.in_ok-learn_pairs.ensures.teaches.crash at3 in
    let at1 = early s1 s2 c.in_ok-learn_commodities.ensures.teaches.crash at2 in
    let same = same_then s0 s1 s2 (c.in_ok-learn_accounts.ensures.teaches.same at1) (c.in_ok-learn_commodities.ensures.teaches.same at2) in
    if_ok c.learn_all_plain.result (λ tables has. c.in_ok-learn_pairs.ensures.paired at3 tables (has_still s0 s2 tables same has))
