-- One more is known; at the end all are.
use Rattle.std.specs.Prelude.{◌≡◌, List, [], ◌∷◌}
use Rattle.std.proofs.Common.{subst, sym, ◌∙◌}
use Rattle.lot_book.specs.declared.change.Pair.{Pair}
use Rattle.lot_load.specs.Known.{KnowsPair, said_by}
use Rattle.lot_load.specs.Paired.{HaveAllPaired}
use Rattle.lot_load.proofs.LearnLemmas.{IsLeft, pair_stays, left_more, left_none}
use Rattle.lot_load.proofs.ReadLemmas.{reads_as, reads_next, tells}
use Rattle.lot_rows.proofs.StateLemmas.{early, has_still}
use Rattle.lot_view.specs.View.{known_with_openings}
use Rattle.lot_load.proofs.pair.learn_pairs.Goals as goal

pub loop-pair-preserved : goal.loop-pair-preserved
loop-pair-preserved g c =
    let first = g.D.Queryable.shown c.args.conn.now in
    let mid = g.D.Queryable.shown c.loop-pair.conn in
    let new = g.D.Queryable.shown c.learn_pair.new.conn in
    let keys : List Pair = c.args.pairs.now.keys in
    let left : List Pair = c.loop-pair.pair-iterator in
    let rest : List Pair = c.next.new.self in
    let key : Pair = c.in-Some.pair.now in
    let turn : left ≡ key ∷ rest = c.in-Some.ensures.steps in (
      c.in_ok-learn_pair.ensures.same_reference ∙ c.loop-pair.invariant.0,
      reads_next _ _ _ (λ entries. IsLeft KnowsPair keys left (said_by entries) (known_with_openings c.args.view.now) (known_with_openings c.loop-pair.view)) _
          first mid new c.in_ok-learn_pair.field-0 c.loop-pair.invariant.1 c.in_ok-learn_pair.ensures.teaches
          (λ tables entries book stand was good says.
          left_more KnowsPair pair_stays keys rest key (said_by entries) (known_with_openings c.args.view.now) (known_with_openings c.loop-pair.view) (known_with_openings c.learn_pair.new.view)
          (subst (λ (l : List Pair). IsLeft KnowsPair keys l (said_by entries) (known_with_openings c.args.view.now) (known_with_openings c.loop-pair.view)) turn was)
          (says entries book stand)),
      λ clean tables has paired.
          let before = early mid new c.in_ok-learn_pair.ensures.teaches.crash clean in
          let own = c.in_ok-learn_pair.ensures.paired clean tables (has_still first mid tables (c.loop-pair.invariant.1.same before) has) in
          c.loop-pair.invariant.2 before tables has (subst (λ (l : List Pair). HaveAllPaired l tables) (sym turn) (own, paired)),
    )

pub returns-clause-teaches : goal.returns-clause-teaches
returns-clause-teaches g c =
    let first = g.D.Queryable.shown c.args.conn.now in
    let now = g.D.Queryable.shown c.loop-pair.conn in
    let keys : List Pair = c.args.pairs.now.keys in
    let left : List Pair = c.loop-pair.pair-iterator in
    let none : left ≡ [] = c.in-None.ensures.steps.0 in
    tells _ first now tt
    (reads_as (λ entries. IsLeft KnowsPair keys left (said_by entries) (known_with_openings c.args.view.now) (known_with_openings c.loop-pair.view)) _ first now c.loop-pair.invariant.1
    (λ tables entries book stand was.
    left_none KnowsPair keys (said_by entries) (known_with_openings c.args.view.now) (known_with_openings c.loop-pair.view)
    (subst (λ (l : List Pair). IsLeft KnowsPair keys l (said_by entries) (known_with_openings c.args.view.now) (known_with_openings c.loop-pair.view)) none was)))

pub returns-clause-paired : goal.returns-clause-paired
returns-clause-paired g c clean tables has =
    let left : List Pair = c.loop-pair.pair-iterator in
    let none : left ≡ [] = c.in-None.ensures.steps.0 in
    c.loop-pair.invariant.2 clean tables has (subst (λ (l : List Pair). HaveAllPaired l tables) (sym none) tt)
