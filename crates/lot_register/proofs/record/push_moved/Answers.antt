use Rattle.std.proofs.Common.{◌∙◌, ◌∷◌, []}
use Rattle.lot_register.proofs.TextLemmas.{told_fields}
use Rattle.lot_register.proofs.record.push_moved.Goals as goal

pub returns : goal.returns
returns c =
    told_fields c.push_others.result _ _ _ _
    (λ i.
    c.format.ensures.text i
    ∷ c.format-2.ensures.text i
    ∷ c.as_str.ensures.value i
    ∷ c.as_str-2.ensures.value i
    ∷ (c.as_str-3.ensures.value ∙ c.in_ok-units.ensures) i
    ∷ [])
    c.push_others.ensures
