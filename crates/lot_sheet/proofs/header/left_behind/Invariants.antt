-- What is left behind the whole field is left behind what is left of it.
use Rattle.std.proofs.Common.{◌≡◌, length}
use Rattle.lot_sheet.specs.Header.{left_behind}
use Rattle.lot_sheet.proofs.header.left_behind.Given as goal

abbrev pub invariant-loop-left : goal.invariant-loop-left
invariant-loop-left l = left_behind l.text l.field ≡ left_behind l.rest l.left

abbrev pub decreases-loop-left : goal.decreases-loop-left
decreases-loop-left l = length l.left
