-- The three steps, one after another.
use Rattle.std.specs.Prelude.{None}
use Rattle.lot_book.specs.Facts.{Facts}
use Rattle.lot_book.specs.Recorded.{facts_in}
use Rattle.lot_view.specs.View.{known_with_openings}
use Rattle.lot_load.proofs.ReadLemmas.{reads_first, reads_next, tells_last}
use Rattle.lot_load.specs.Known.{KnowsAt, KnowsHead, KnowsLots, KnowsPair, Learns, said_by}
use Rattle.lot_load.proofs.LearnLemmas.{both_stay, head_stays, learns_as, learns_both, lots_stay, pair_known}
use Rattle.lot_load.proofs.ReadLemmas.{HasRead, if_ok}
use Rattle.lot_rows.proofs.StateLemmas.{early, has_still}
use Rattle.lot_load.proofs.pair.learn_pair.Goals as goal

pub returns-clause-teaches : goal.returns-clause-teaches
returns-clause-teaches g c =
    let pair = c.args.pair.now in
    let head : Facts → Facts → Type 0 = KnowsHead pair.account pair.commodity in
    let lots : Facts → Facts → Type 0 = KnowsLots pair.account pair.commodity in
    let plain : Facts → Facts → Type 0 = KnowsAt pair.account (pair.commodity, None) in
    let both : Facts → Facts → Type 0 = λ book known. head book known × lots book known in
    let first = g.D.Queryable.shown c.args.conn.now in
    let second = g.D.Queryable.shown c.learn_head.new.conn in
    let third = g.D.Queryable.shown c.learn_lots.new.conn in
    let last = g.D.Queryable.shown c.learn_units.new.conn in
    let a = known_with_openings c.args.view.now in
    let b = known_with_openings c.learn_head.new.view in
    let d = known_with_openings c.learn_lots.new.view in
    let e = known_with_openings c.learn_units.new.view in
    let one : HasRead (λ entries. Learns head (said_by entries) a b) first second =
    reads_first _ _ _ (λ entries. Learns head (said_by entries) a b) first second c.in_ok-learn_head.field-0 c.in_ok-learn_head.ensures.teaches
    (λ tables entries book stand good is. is entries book stand) in
    let two : HasRead (λ entries. Learns both (said_by entries) a d) first third =
    reads_next _ _ _ (λ entries. Learns head (said_by entries) a b) (λ entries. Learns both (said_by entries) a d) first second third
    c.in_ok-learn_lots.field-0 one c.in_ok-learn_lots.ensures.teaches
    (λ tables entries book stand was good is.
    learns_both head lots (said_by entries) a b d (head_stays pair.account pair.commodity) was (is entries book stand)) in
    tells_last (λ entries. Learns both (said_by entries) a d) (λ answer entries. Learns plain (said_by entries) d e) _ first third last c.learn_units.result two
    c.learn_units.ensures.teaches
    (λ entries answer was own.
    learns_as (λ book known. both book known × plain book known) (KnowsPair pair) (said_by entries) a e
    (λ _ part knows. pair_known pair (facts_in entries) e.facts knows.0.0 knows.0.1 knows.1)
    (learns_both both plain (said_by entries) a d e
    (both_stay head lots (head_stays pair.account pair.commodity) (lots_stay pair.account pair.commodity)) was own))

pub returns-clause-paired : goal.returns-clause-paired
returns-clause-paired g c clean =
    let first = g.D.Queryable.shown c.args.conn.now in
    let second = g.D.Queryable.shown c.learn_head.new.conn in
    let third = g.D.Queryable.shown c.learn_lots.new.conn in
    let last = g.D.Queryable.shown c.learn_units.new.conn in
    let before = early third last c.learn_units.ensures.teaches.crash clean in
    let head = c.in_ok-learn_head.ensures.teaches in
    if_ok c.learn_units.result (λ tables has.
    c.in_ok-learn_lots.ensures.paired before tables
    (has_still first second tables (head.same (early second third c.in_ok-learn_lots.ensures.teaches.crash before)) has))
