use Rattle.std.proofs.Common.{◌≡◌}
use Rattle.sqlite.specs.Held.{state}
use Rattle.lot_migrate.proofs.FoldLemmas.{Folds}
use Rattle.lot_migrate.proofs.fold.fold_legs.Given as goal

-- the legs up to the last one are folded
abbrev pub invariant-pages : goal.invariant-pages
invariant-pages g l =
    (l.tx.conn.ghost_name ≡ l.fn.tx.conn.ghost_name)
    × Folds (state g.S.Store l.fn.tx.conn.now) (state g.S.Store l.tx.conn.now) l.last l.lots
