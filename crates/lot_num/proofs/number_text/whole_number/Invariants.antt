use Rattle.std.proofs.Common.{◌≡◌, ◌^◌, ◌-◌, min, take}
use Rattle.lot_num.specs.NumberText.{whole_number}
use Rattle.lot_num.proofs.number_text.whole_number.Given as goal

-- the digits so far
abbrev pub invariant-loop-b : goal.invariant-loop-b
invariant-loop-b l = l.value ≡ min (whole_number (take l.b-index l.b-items)) (2 ^ 64 - 1)
