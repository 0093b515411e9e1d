use Rattle.std.proofs.Common.{◌≡◌, map, take}
use Rattle.lot_walk.specs.Gains.{at_lot, taken}
use Rattle.lot_walk.proofs.gains.legs_at.Given as goal

abbrev pub invariant-rows : goal.invariant-rows
invariant-rows l = map taken (take l.row-index l.rows) ≡ map at_lot l.legs.items
