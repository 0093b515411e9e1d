-- Once those that are left are known, all are; and where the tables have the same lots of these, they have of all.
use Rattle.std.specs.Prelude.{◌≡◌}
use Rattle.sqlite.specs.State.{HasCleanDisk}
use Rattle.lot_load.specs.Known.{KnowsPair, said_by}
use Rattle.lot_load.specs.Paired.{HaveAllPaired}
use Rattle.lot_load.proofs.LearnLemmas.{IsLeft}
use Rattle.lot_load.proofs.ReadLemmas.{HasRead}
use Rattle.lot_rows.specs.Tables.{Has, Tables}
use Rattle.lot_view.specs.View.{known_with_openings}
use Rattle.lot_load.proofs.pair.learn_pairs.Given as goal

abbrev pub invariant-loop-pair : goal.invariant-loop-pair
invariant-loop-pair g l =
    (g.D.Queryable.reference l.conn ≡ g.D.Queryable.reference l.fn.conn)
    × HasRead (λ entries. IsLeft KnowsPair l.pairs.keys l.pair-iterator (said_by entries) (known_with_openings l.fn.view) (known_with_openings l.view))
    (g.D.Queryable.shown l.fn.conn) (g.D.Queryable.shown l.conn)
    × (HasCleanDisk (g.D.Queryable.shown l.conn) → (tables : Tables) → Has (g.D.Queryable.shown l.fn.conn) tables
    → HaveAllPaired l.pair-iterator tables → HaveAllPaired l.pairs.keys tables)
