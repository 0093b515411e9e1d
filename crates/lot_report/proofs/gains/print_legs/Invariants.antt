use Rattle.std.proofs.Common.{drop}
use Rattle.lot_report.specs.Gains.{leg_line}
use Rattle.lot_io.specs.Writes.{NoneFailed}
use Rattle.lot_report.proofs.EachLemmas.{EachSoFar}
use Rattle.lot_report.proofs.gains.print_legs.Given as goal

-- the legs so far are written, and no call failed
abbrev pub invariant-loop-lot : goal.invariant-loop-lot
invariant-loop-lot g l =
    EachSoFar (leg_line l.commodity) l.legs (drop l.lot-index l.legs) (g.W.CountedWrite.contents l.initial.writer) (g.W.CountedWrite.contents l.writer)
    × NoneFailed (g.W.CountedWrite.calls l.initial.writer) (g.W.CountedWrite.calls l.writer)
