-- The other command is judged where it isn't refused on what was looked at, and so on the book.
use Rattle.std.proofs.Common.{◌∙◌, refl, subst, sym}
use Rattle.lot_book.specs.Openings.{ties_on}
use Rattle.lot_book.specs.Step.{DecidesUnder}
use Rattle.lot_view.specs.View.{known, known_with_openings}
use Rattle.lot_view.specs.declared.view.View.{View}
use Rattle.lot_store.proofs.TurnLemmas.{says_passed, says_refused}
use Rattle.lot_store.proofs.turn.try_with.Goals as goal

pub returns-in-Some-clause-tells : goal.returns-in-Some-clause-tells
returns-in-Some-clause-tells g c =
    let judged = c.in_ok-refusal.ensures in
    let decides =
    subst (λ (v : View). DecidesUnder (ties_on (known_with_openings v)) (known v) c.args.other judged.0) c.view.ensures judged.1 in
    says_refused c.args.kept c.args.key.now c.args.other c.in_ok-looked.looked (g.D.Queryable.shown c.args.conn.now) (g.D.Queryable.shown c.look_on.new.conn)
    c.in_ok-looked.ensures.looks judged.0 decides c.as_handed_in.result c.in-Some.refusal (sym judged.2 ∙ c.in-Some.is) c.as_handed_in.ensures

pub returns-in-None-clause-tells : goal.returns-in-None-clause-tells
returns-in-None-clause-tells g c =
    let judged = c.in_ok-refusal.ensures in
    let decides =
    subst (λ (v : View). DecidesUnder (ties_on (known_with_openings v)) (known v) c.args.other judged.0) c.view.ensures judged.1 in
    says_passed c.args.kept c.args.key.now c.args.other c.in_ok-looked.looked (g.D.Queryable.shown c.args.conn.now) (g.D.Queryable.shown c.look_on.new.conn)
    c.in_ok-looked.ensures.looks judged.0 decides _ (sym judged.2 ∙ c.in-None.is) refl

pub returns-in-Some-clause-whole : goal.returns-in-Some-clause-whole
returns-in-Some-clause-whole g c = c.in_ok-looked.ensures.whole

pub returns-in-None-clause-whole : goal.returns-in-None-clause-whole
returns-in-None-clause-whole g c = c.in_ok-looked.ensures.whole
