use Rattle.std.proofs.Common.{◌∙◌, ◌∷◌, []}
use Rattle.lot_register.proofs.TextLemmas.{told_fields}
use Rattle.lot_register.proofs.record.push_key.Goals as goal

pub returns : goal.returns
returns c =
    told_fields c.push_others.result _ _ _ _
    (λ i.
    (c.as_str.ensures.value ∙ c.in_ok-acquired.ensures) i
    ∷ c.label_field.ensures i
    ∷ (c.as_str-2.ensures.value ∙ c.in_ok-unit_cost.ensures) i
    ∷ c.as_str-3.ensures.value i
    ∷ [])
    c.push_others.ensures
