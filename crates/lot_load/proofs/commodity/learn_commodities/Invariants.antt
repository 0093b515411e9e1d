-- Once those that are left are known, all are.
use Rattle.std.specs.Prelude.{◌≡◌}
use Rattle.lot_load.specs.Known.{KnowsDeclared, said_by}
use Rattle.lot_load.proofs.LearnLemmas.{IsLeft}
use Rattle.lot_load.proofs.ReadLemmas.{HasRead}
use Rattle.lot_view.specs.View.{known_with_openings}
use Rattle.lot_load.proofs.commodity.learn_commodities.Given as goal

abbrev pub invariant-loop-commodity : goal.invariant-loop-commodity
invariant-loop-commodity g l =
    (g.D.Queryable.reference l.conn ≡ g.D.Queryable.reference l.fn.conn)
    × HasRead (λ entries. IsLeft KnowsDeclared l.commodities.keys l.commodity-iterator (said_by entries) (known_with_openings l.fn.view) (known_with_openings l.view))
    (g.D.Queryable.shown l.fn.conn) (g.D.Queryable.shown l.conn)
