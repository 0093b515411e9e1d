use Rattle.std.proofs.Common.{drop}
use Rattle.lot_view.specs.View.{known_with_openings}
use Rattle.lot_posting.proofs.TallyLots.{AreSet}
use Rattle.lot_posting.proofs.tally.Tally.copy_lots.Given as goal

-- the lots at which no leg is that is left are set
abbrev pub invariant-loop-leg : goal.invariant-loop-leg
invariant-loop-leg l =
    AreSet (known_with_openings l.view) l.self.legs l.self.openings l.account l.commodity (drop l.leg-index l.leg-items) l.lots
