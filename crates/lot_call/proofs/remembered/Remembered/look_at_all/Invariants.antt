-- Nothing has changed so far.
use Rattle.std.proofs.Common.{◌≡◌}
use Rattle.sqlite.specs.State.{HasCleanDisk, IsUnchanged, Survives}
use Rattle.lot_call.proofs.remembered.Remembered.look_at_all.Given as goal

abbrev pub invariant-commands : goal.invariant-commands
invariant-commands g l =
    (goal.iterator-commands g).can_next l.command-iterator
    × (goal.iterator-commands g).is_finite l.command-iterator
    × (g.D.Queryable.reference l.db ≡ g.D.Queryable.reference l.fn.db)
    × (HasCleanDisk (g.D.Queryable.shown l.db) → IsUnchanged (g.D.Queryable.shown l.fn.db) (g.D.Queryable.shown l.db))
    × Survives (g.D.Queryable.shown l.fn.db) (g.D.Queryable.shown l.db) (λ _. ⊥)
