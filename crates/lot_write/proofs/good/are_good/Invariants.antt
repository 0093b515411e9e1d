use Rattle.std.proofs.Common.{All, take}
use Rattle.lot_write.specs.Write.{IsGood}
use Rattle.lot_write.proofs.good.are_good.Given as goal

abbrev pub invariant-loop-write : goal.invariant-loop-write
invariant-loop-write l = All IsGood (take l.write-index l.writes)
