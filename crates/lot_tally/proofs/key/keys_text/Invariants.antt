use Rattle.std.proofs.Common.{◌≡◌, flat_map, take}
use Rattle.std.specs.String.{string_bytes}
use Rattle.lot_tally.specs.Lots.{key_field, separated}
use Rattle.lot_tally.proofs.key.keys_text.Given as goal

-- the fields of the first keys are there
abbrev pub invariant-loop-key : goal.invariant-loop-key
invariant-loop-key l = string_bytes l.text ≡ flat_map (λ key. separated l.form (key_field key l.sale l.lot)) (take l.key-index l.by)
