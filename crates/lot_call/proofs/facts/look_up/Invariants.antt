-- The book was only looked at so far.
use Rattle.std.proofs.Common.{◌≡◌}
use Rattle.lot_call.specs.Looks.{IsLookedAt}
use Rattle.lot_call.proofs.facts.look_up.Given as goal

abbrev pub invariant-facts : goal.invariant-facts
invariant-facts g l =
    (g.D.Queryable.reference l.db ≡ g.D.Queryable.reference l.fn.db)
    × IsLookedAt (g.D.Queryable.shown l.fn.db) (g.D.Queryable.shown l.db)
