-- One more is known; at the end all are.
use Rattle.std.specs.Prelude.{◌≡◌, List, [], ◌∷◌, ℕ}
use Rattle.std.proofs.Common.{subst, ◌∙◌}
use Rattle.lot_load.specs.Known.{KnowsDeclared, said_by}
use Rattle.lot_load.proofs.LearnLemmas.{IsLeft, declared_stays, left_more, left_none}
use Rattle.lot_load.proofs.ReadLemmas.{reads_as, reads_next, tells}
use Rattle.lot_view.specs.View.{known_with_openings}
use Rattle.lot_load.proofs.commodity.learn_commodities.Goals as goal

pub loop-commodity-preserved : goal.loop-commodity-preserved
loop-commodity-preserved g c =
    let first = g.D.Queryable.shown c.args.conn.now in
    let mid = g.D.Queryable.shown c.loop-commodity.conn in
    let new = g.D.Queryable.shown c.learn_commodity.new.conn in
    let keys : List (List ℕ) = c.args.commodities.now.keys in
    let left : List (List ℕ) = c.loop-commodity.commodity-iterator in
    let rest : List (List ℕ) = c.next.new.self in
    let key : List ℕ = c.in-Some.commodity.now in
    let turn : left ≡ key ∷ rest = c.in-Some.ensures.steps in (
      c.in_ok-learn_commodity.ensures.same_reference ∙ c.loop-commodity.invariant.0,
      reads_next _ _ _ (λ entries. IsLeft KnowsDeclared keys left (said_by entries) (known_with_openings c.args.view.now) (known_with_openings c.loop-commodity.view)) _
          first mid new c.in_ok-learn_commodity.field-0 c.loop-commodity.invariant.1 c.in_ok-learn_commodity.ensures.teaches
          (λ tables entries book stand was good says.
          left_more KnowsDeclared declared_stays keys rest key (said_by entries) (known_with_openings c.args.view.now) (known_with_openings c.loop-commodity.view) (known_with_openings c.learn_commodity.new.view)
          (subst (λ (l : List (List ℕ)). IsLeft KnowsDeclared keys l (said_by entries) (known_with_openings c.args.view.now) (known_with_openings c.loop-commodity.view)) turn was)
          (says entries book stand)),
    )

pub returns-clause-teaches : goal.returns-clause-teaches
returns-clause-teaches g c =
    let first = g.D.Queryable.shown c.args.conn.now in
    let now = g.D.Queryable.shown c.loop-commodity.conn in
    let keys : List (List ℕ) = c.args.commodities.now.keys in
    let left : List (List ℕ) = c.loop-commodity.commodity-iterator in
    let none : left ≡ [] = c.in-None.ensures.steps.0 in
    tells _ first now tt
    (reads_as (λ entries. IsLeft KnowsDeclared keys left (said_by entries) (known_with_openings c.args.view.now) (known_with_openings c.loop-commodity.view)) _ first now c.loop-commodity.invariant.1
    (λ tables entries book stand was.
    left_none KnowsDeclared keys (said_by entries) (known_with_openings c.args.view.now) (known_with_openings c.loop-commodity.view)
    (subst (λ (l : List (List ℕ)). IsLeft KnowsDeclared keys l (said_by entries) (known_with_openings c.args.view.now) (known_with_openings c.loop-commodity.view)) none was)))
