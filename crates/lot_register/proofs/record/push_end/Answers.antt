use Rattle.std.proofs.Common.{◌∙◌, ◌∷◌, []}
use Rattle.lot_register.proofs.TextLemmas.{told_fields}
use Rattle.lot_register.proofs.record.push_end.Goals as goal

pub returns : goal.returns
returns c =
    told_fields c.push_others.result _ _ _ _
    (λ i. (c.as_str.ensures.value ∙ c.in_ok-left.ensures) i ∷ c.narration_field.ensures i ∷ []) c.push_others.ensures
