-- One more is known; at the end all are.
use Rattle.std.specs.Prelude.{◌≡◌, List, [], ◌∷◌, ℕ}
use Rattle.std.proofs.Common.{subst, ◌∙◌}
use Rattle.lot_load.specs.Known.{KnowsPlain, said_by}
use Rattle.lot_load.proofs.LearnLemmas.{IsLeft, plain_stays, left_more, left_none}
use Rattle.lot_load.proofs.ReadLemmas.{reads_as, reads_next, tells}
use Rattle.lot_view.specs.View.{known_with_openings}
use Rattle.lot_load.proofs.plain.learn_all_plain.Goals as goal

pub loop-account-preserved : goal.loop-account-preserved
loop-account-preserved g c =
    let first = g.D.Queryable.shown c.args.conn.now in
    let mid = g.D.Queryable.shown c.loop-account.conn in
    let new = g.D.Queryable.shown c.learn_plain.new.conn in
    let keys : List (List ℕ) = c.args.accounts.now.keys in
    let left : List (List ℕ) = c.loop-account.account-iterator in
    let rest : List (List ℕ) = c.next.new.self in
    let key : List ℕ = c.in-Some.account.now in
    let turn : left ≡ key ∷ rest = c.in-Some.ensures.steps in (
      c.in_ok-learn_plain.ensures.same_reference ∙ c.loop-account.invariant.0,
      reads_next _ _ _ (λ entries. IsLeft KnowsPlain keys left (said_by entries) (known_with_openings c.args.view.now) (known_with_openings c.loop-account.view)) _
          first mid new c.in_ok-learn_plain.field-0 c.loop-account.invariant.1 c.in_ok-learn_plain.ensures.teaches
          (λ tables entries book stand was good says.
          left_more KnowsPlain plain_stays keys rest key (said_by entries) (known_with_openings c.args.view.now) (known_with_openings c.loop-account.view) (known_with_openings c.learn_plain.new.view)
          (subst (λ (l : List (List ℕ)). IsLeft KnowsPlain keys l (said_by entries) (known_with_openings c.args.view.now) (known_with_openings c.loop-account.view)) turn was)
          (says entries book stand)),
    )

pub returns-clause-teaches : goal.returns-clause-teaches
returns-clause-teaches g c =
    let first = g.D.Queryable.shown c.args.conn.now in
    let now = g.D.Queryable.shown c.loop-account.conn in
    let keys : List (List ℕ) = c.args.accounts.now.keys in
    let left : List (List ℕ) = c.loop-account.account-iterator in
    let none : left ≡ [] = c.in-None.ensures.steps.0 in
    tells _ first now tt
    (reads_as (λ entries. IsLeft KnowsPlain keys left (said_by entries) (known_with_openings c.args.view.now) (known_with_openings c.loop-account.view)) _ first now c.loop-account.invariant.1
    (λ tables entries book stand was.
    left_none KnowsPlain keys (said_by entries) (known_with_openings c.args.view.now) (known_with_openings c.loop-account.view)
    (subst (λ (l : List (List ℕ)). IsLeft KnowsPlain keys l (said_by entries) (known_with_openings c.args.view.now) (known_with_openings c.loop-account.view)) none was)))
