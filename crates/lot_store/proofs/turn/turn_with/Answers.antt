-- What is tried on what was looked at is what is tried on the book.
use Rattle.std.proofs.Common.{◌≡◌, None, Some}
use Rattle.lot_rows.proofs.StateLemmas.{early}
use Rattle.lot_store.proofs.TurnLemmas.{keeps_last, says_stays, says_tried, trial_on}
use Rattle.lot_store.proofs.turn.turn_with.Goals as goal

pub returns-in-Some-clause-tells : goal.returns-in-Some-clause-tells
returns-in-Some-clause-tells g c =
    let is : c.in_ok-other.field-0.other ≡ Some c.in-Some.other = cc (c.in_ok-other.other-is, c.in-Some.is) in
    let tried =
    trial_on c.in_ok-looked.looked c.view.result.now c.view.ensures c.args.rounding.now c.args.asked.now _ (Some c.in-Some.other) is c.in_ok-other.ensures in
    says_tried (c.canonical_texts_tell_commands_apart.ensures.one, (c.there_is_one_completion.ensures, c.there_is_one_split_on.ensures.one)) c.args.kept
    c.args.rounding.now c.args.key.now c.args.asked.now c.in_ok-looked.looked (g.D.Queryable.shown c.args.conn.now) (g.D.Queryable.shown c.look_on.new.conn)
    c.in_ok-looked.ensures.looks c.in-Some.other (g.D.Queryable.shown c.try_with.new.conn) c.try_with.result tried c.try_with.ensures.tells

pub returns-in-None-clause-tells : goal.returns-in-None-clause-tells
returns-in-None-clause-tells g c =
    let is : c.in_ok-other.field-0.other ≡ None = cc (c.in_ok-other.other-is, c.in-None.is) in
    let none =
    trial_on c.in_ok-looked.looked c.view.result.now c.view.ensures c.args.rounding.now c.args.asked.now _ None is c.in_ok-other.ensures in
    says_stays (c.canonical_texts_tell_commands_apart.ensures.one, (c.there_is_one_completion.ensures, c.there_is_one_split_on.ensures.one)) c.args.kept
    c.args.rounding.now c.args.key.now c.args.asked.now c.in_ok-looked.looked (g.D.Queryable.shown c.args.conn.now) (g.D.Queryable.shown c.look_on.new.conn)
    c.in_ok-looked.ensures.looks c.as_handed_in.result c.as_handed_in.ensures none

pub returns-in-Some-clause-whole : goal.returns-in-Some-clause-whole
returns-in-Some-clause-whole g c =
    let old = g.D.Queryable.shown c.args.conn.now in
    let mid = g.D.Queryable.shown c.look_on.new.conn in
    let new = g.D.Queryable.shown c.try_with.new.conn in
    keeps_last c.args.kept (Some c.in_ok-looked.looked) old mid new c.try_with.result
    (λ clean. c.in_ok-looked.ensures.looks.same (early mid new c.try_with.ensures.tells.crash clean))
    (early mid new c.try_with.ensures.tells.crash) c.in_ok-looked.ensures.whole c.try_with.ensures.whole

pub returns-in-None-clause-whole : goal.returns-in-None-clause-whole
returns-in-None-clause-whole g c = c.in_ok-looked.ensures.whole
