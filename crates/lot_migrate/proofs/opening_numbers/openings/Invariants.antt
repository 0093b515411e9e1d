use Rattle.std.proofs.Common.{take}
use Rattle.lot_migrate.specs.LotOpenings.{Keeps}
use Rattle.lot_migrate.proofs.opening_numbers.openings.Given as goal

-- the lots are kept as the legs so far leave them
abbrev pub invariant-loop-leg : goal.invariant-loop-leg
invariant-loop-leg l = Keeps (take l.leg-index l.legs) l.lots
