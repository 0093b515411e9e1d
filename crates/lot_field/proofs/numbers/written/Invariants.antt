use Rattle.std.proofs.Common.{◌≡◌, ◌^◌, ◌-◌, min, take}
use Rattle.std.specs.Str.Parse.{digits_value}
use Rattle.lot_field.specs.Numbers.{digits_of}
use Rattle.lot_field.proofs.numbers.written.Given as goal

-- the digits so far
abbrev pub invariant-loop-byte : goal.invariant-loop-byte
invariant-loop-byte l = l.value ≡ min (digits_value 10 (digits_of (take l.byte-index l.text))) (2 ^ 64 - 1)
