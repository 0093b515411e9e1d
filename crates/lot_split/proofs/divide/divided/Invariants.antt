use Rattle.std.proofs.Common.{take}
use Rattle.std.specs.List.{AllZip}
use Rattle.lot_split.specs.Lots.{Becomes}
use Rattle.lot_split.proofs.divide.divided.Given as goal

-- the lots so far have become these
abbrev pub invariant-loop-lot : goal.invariant-loop-lot
invariant-loop-lot l = AllZip (Becomes l.fn.ratio) (take l.lot-index l.lots) l.split
