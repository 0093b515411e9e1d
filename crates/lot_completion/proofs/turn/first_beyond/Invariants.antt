use Rattle.std.proofs.Common.{take}
use Rattle.lot_completion.specs.Turn.{AreWithinBound}
use Rattle.lot_completion.proofs.turn.first_beyond.Given as goal

-- those so far are within it
abbrev pub invariant-loop-crumb : goal.invariant-loop-crumb
invariant-loop-crumb l = AreWithinBound l.fn.bound (take l.crumb-index l.crumbs)
