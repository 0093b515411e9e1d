use Rattle.std.proofs.Common.{◌≡◌, ◌++◌, ◌∷◌, flat_map, take}
use Rattle.std.specs.String.{string_bytes}
use Rattle.lot_csv.specs.Record.{field_text}
use Rattle.lot_csv.proofs.record.push_others.Given as goal

-- a comma and each of the first fields are appended
abbrev pub invariant-loop-field : goal.invariant-loop-field
invariant-loop-field l = string_bytes l.text ≡ string_bytes l.initial.text ++ flat_map (λ field. 44 ∷ field_text field.now) (take l.field-index l.fields)
