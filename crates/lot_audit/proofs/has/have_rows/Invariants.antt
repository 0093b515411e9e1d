use Rattle.std.proofs.Common.{take}
use Rattle.std.specs.List.{AllByRecursion}
use Rattle.sqlite.specs.Held.{state}
use Rattle.lot_audit.specs.Checks.{always}
use Rattle.lot_audit.specs.Told.{HoldingHasRows}
use Rattle.lot_audit.proofs.SeenLemmas.{Seen}
use Rattle.lot_audit.proofs.has.have_rows.Given as goal

-- the holdings so far have their rows
abbrev pub invariant-holdings : goal.invariant-holdings
invariant-holdings g l =
    Seen always (λ tables. AllByRecursion (HoldingHasRows tables) (take l.holding-index l.holdings)) (state g.S.Store l.fn.conn)
    (state g.S.Store l.conn)
