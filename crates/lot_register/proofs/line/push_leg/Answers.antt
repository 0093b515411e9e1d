use Rattle.std.specs.Prelude.{List, ℕ, codes, flat_map}
use Rattle.std.specs.String.{string_bytes}
use Rattle.std.proofs.Common.{◌++◌, ◌∙◌, ◌∷◌, [], ap}
use Rattle.lot_base.specs.Day.{day_text}
use Rattle.lot_register.specs.Text.{lot_part, units_text}
use Rattle.lot_register.proofs.TextLemmas.{text_grown}
use Rattle.lot_register.proofs.line.push_leg.Goals as goal

pub returns : goal.returns
returns c =
    let leg = c.args.leg.now in
    let old = string_bytes c.args.text.now in
    text_grown c.push_lot.result old (string_bytes c.push_all.new.text) (string_bytes c.push_lot.new.text)
    (day_text leg.day ∷ codes " " ∷ leg.account ∷ codes " " ∷ units_text leg.lot leg.units ∷ codes " " ∷ leg.commodity ∷ [])
    (lot_part leg.lot)
    (c.in_ok-push_all.ensures
    ∙ ap (λ (texts : List (List ℕ)). old ++ flat_map (λ (t : List ℕ). t) texts)
    (λ i.
    (c.as_str.ensures.value ∙ c.in_ok-day.ensures) i
    ∷ codes " "
    ∷ c.as_str-2.ensures.value i
    ∷ codes " "
    ∷ (c.as_str-3.ensures.value ∙ c.in_ok-units.ensures) i
    ∷ codes " "
    ∷ c.as_str-4.ensures.value i
    ∷ []))
    c.push_lot.ensures
