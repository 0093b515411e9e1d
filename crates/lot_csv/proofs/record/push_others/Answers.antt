use Rattle.std.proofs.Common.{◌∷◌, ◌++◌, ◌∙◌, ap, arith, flat_map, sym}
use Rattle.std.specs.String.{string_bytes}
use Rattle.std.proofs.lemmas.List.{take_all}
use Rattle.std.proofs.lemmas.List.Folds.{flat_map-map}
use Rattle.lot_csv.specs.Record.{field_text}
use Rattle.lot_csv.proofs.record.push_others.Goals as goal

pub returns : goal.returns
returns c =
    c.loop-field.invariant
    ∙ ap (λ fields. string_bytes c.args.text.now ++ flat_map (λ field. 44 ∷ field_text field.now) fields)
    (take_all c.loop-field.field-index c.args.fields.now (omega arith))
    ∙ ap (λ bytes. string_bytes c.args.text.now ++ bytes) (sym (flat_map-map (λ field. 44 ∷ field_text field) (λ field. field.now) c.args.fields.now))
