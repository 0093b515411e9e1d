-- The places of the roles so far.
use Rattle.std.proofs.Common.{◌≡◌, take}
use Rattle.std.specs.List.{fold}
use Rattle.lot_deal_read.specs.Figures.{no_places, with_place}
use Rattle.lot_deal_read.proofs.figures.Places.of.Given as goal

abbrev pub invariant-loop-rounded : goal.invariant-loop-rounded
invariant-loop-rounded l = l.places ≡ fold with_place no_places (take l.rounded-index l.rounded-items)
