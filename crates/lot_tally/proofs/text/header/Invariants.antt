use Rattle.std.proofs.Common.{◌≡◌, ◌++◌, ◌∷◌, [], flat_map, take}
use Rattle.std.specs.String.{string_bytes}
use Rattle.lot_tally.specs.Lots.{key_name}
use Rattle.lot_tally.proofs.text.header.Given as goal

-- the words of the first keys are there, each with a comma
abbrev pub invariant-loop-key : goal.invariant-loop-key
invariant-loop-key l = string_bytes l.text ≡ flat_map (λ key. key_name key ++ 44 ∷ []) (take l.key-index l.by)
