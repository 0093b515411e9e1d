use Rattle.std.specs.Prelude.{List, ℕ, codes, decimal, flat_map}
use Rattle.std.specs.String.{string_bytes}
use Rattle.std.proofs.Common.{◌++◌, ◌∙◌, ◌∷◌, [], ap}
use Rattle.lot_register.specs.Text.{narration_part, units_text}
use Rattle.lot_register.proofs.TextLemmas.{pushed, text_grown_twice}
use Rattle.lot_register.proofs.line.push_end.Goals as goal

pub returns : goal.returns
returns c =
    let leg = c.args.leg.now in
    let old = string_bytes c.args.text.now in
    text_grown_twice c.push_str.result old (string_bytes c.push_all.new.text) (string_bytes c.push_narration.new.text) (string_bytes c.push_str.new.self)
    (codes " left " ∷ units_text leg.lot c.args.left ∷ codes " entry " ∷ decimal leg.entry ∷ [])
    (narration_part leg.narration) (codes "\n")
    (c.in_ok-push_all.ensures
    ∙ ap (λ (texts : List (List ℕ)). old ++ flat_map (λ (t : List ℕ). t) texts)
    (λ i. codes " left " ∷ (c.as_str.ensures.value ∙ c.in_ok-left.ensures) i ∷ codes " entry " ∷ c.format-entry.ensures.text i ∷ []))
    c.in_ok-push_narration.ensures (pushed c.push_str.result (string_bytes c.push_str.new.self) (string_bytes c.push_narration.new.text) (codes "\n") c.push_str.ensures.bytes)
