use Rattle.std.proofs.Common.{◌≡◌, ◌∙◌, ◌∷◌, [], ap, of_z, rules, to_z, w32}
use Rattle.std.specs.Fmt.{signed_decimal}
use Rattle.lot_csv.proofs.RecordLemmas.{told_fields}
use Rattle.lot_csv.proofs.gains.push_taken.Goals as goal

pub returns : goal.returns
returns c =
    let days : to_z w32 (of_z w32 c.days_between.result) ≡ c.days_between.result = search rules in
    told_fields c.push_others.result _ _ _ _
    (λ i.
    (c.as_str.ensures.value ∙ c.in_ok-units.ensures) i
    ∷ (c.as_str-2.ensures.value ∙ c.in_ok-first.ensures) i
    ∷ (c.as_str-3.ensures.value ∙ c.in_ok-last.ensures) i
    ∷ (c.format-days_held.ensures.text ∙ ap signed_decimal (days ∙ c.days_between.ensures)) i
    ∷ [])
    c.push_others.ensures
