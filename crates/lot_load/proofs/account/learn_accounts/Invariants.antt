-- Once those that are left are known, all are.
use Rattle.std.specs.Prelude.{◌≡◌}
use Rattle.lot_load.specs.Known.{KnowsStanding, said_by}
use Rattle.lot_load.proofs.LearnLemmas.{IsLeft}
use Rattle.lot_load.proofs.ReadLemmas.{HasRead}
use Rattle.lot_view.specs.View.{known_with_openings}
use Rattle.lot_load.proofs.account.learn_accounts.Given as goal

abbrev pub invariant-loop-account : goal.invariant-loop-account
invariant-loop-account g l =
    (g.D.Queryable.reference l.conn ≡ g.D.Queryable.reference l.fn.conn)
    × HasRead (λ entries. IsLeft KnowsStanding l.accounts.keys l.account-iterator (said_by entries) (known_with_openings l.fn.view) (known_with_openings l.view))
    (g.D.Queryable.shown l.fn.conn) (g.D.Queryable.shown l.conn)
