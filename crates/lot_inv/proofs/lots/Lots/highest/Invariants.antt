use Rattle.std.proofs.Common.{unsigned_abs}
use Rattle.lot_inv.specs.Holding.{listed}
use Rattle.lot_inv.proofs.HighestLemmas.{Passed}
use Rattle.lot_inv.proofs.lots.Lots.highest.Given as goal

-- the lots so far were passed, of which some have the highest number
abbrev pub invariant-loop-key : goal.invariant-loop-key
invariant-loop-key l =
    Passed l.units l.spec (unsigned_abs l.units) l.highest l.left (listed l.self) (listed l.key-iterator)
