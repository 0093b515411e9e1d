-- All legs are added one after another.
use Rattle.std.proofs.Common.{Ok, Err, ◌≡◌, take, refl, subst}
use Rattle.std.specs.Prelude.{IfOk, List}
use Rattle.lot_book.specs.declared.leg.Leg.{Leg}
use Rattle.lot_migrate.specs.LotOpenings.{Keeps, ListsOpenings}
use Rattle.lot_migrate.proofs.OpenLotLemmas.{all_kept, next_kept}
use Rattle.lot_migrate.proofs.opening_numbers.openings.Goals as goal

pub loop-leg-preserved : goal.loop-leg-preserved
loop-leg-preserved c =
    let legs = c.args.legs.now in
    let i = c.loop-leg.leg-index in
    next_kept legs i c.leg-item.result c.post.new.self c.loop-leg-test.true c.leg-item.is
    (c.in-Ok.ensures.adds (take i legs) c.loop-leg.invariant)

pub returns-clause-lists : goal.returns-clause-lists
returns-clause-lists c = by c.into_openings.result refl
  where
    keeps : Keeps c.args.legs.now c.loop-leg.lots
    keeps = all_kept c.args.legs.now c.loop-leg.leg-index c.loop-leg.lots c.loop-leg-test.false c.loop-leg.invariant

    by : (r : _) → c.into_openings.result ≡ r → IfOk r (λ rows. ListsOpenings c.args.legs.now rows.items)
    by (Ok rows) is =
        subst (λ r. IfOk r (λ rows. (legs : List Leg) → Keeps legs c.loop-leg.lots → ListsOpenings legs rows.items)) is
        c.into_openings.ensures.lists c.args.legs.now keeps
    by (Err e) is = tt
