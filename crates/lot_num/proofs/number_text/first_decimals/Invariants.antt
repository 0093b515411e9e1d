use Rattle.std.proofs.Common.{◌≡◌, ◌^◌, ◌<◌, ◌++◌, take, replicate}
use Rattle.std.specs.Str.Parse.{digits_value}
use Rattle.lot_num.proofs.number_text.first_decimals.Given as goal

-- the decimals so far, padded
abbrev pub invariant-loop-place : goal.invariant-loop-place
invariant-loop-place l =
    (l.value ≡ digits_value 10 (take l.place (l.decimals ++ replicate 8 48))) × (l.value < 10 ^ l.place)
