use Rattle.std.specs.Prelude.{List, ℕ, codes, flat_map, pos}
use Rattle.std.specs.String.{string_bytes}
use Rattle.std.proofs.Common.{◌++◌, ◌∙◌, ◌∷◌, [], ap}
use Rattle.lot_base.specs.Day.{day_text}
use Rattle.lot_num.specs.AmountText.{amount_text}
use Rattle.lot_report.specs.Printed.{label_text}
use Rattle.lot_register.proofs.TextLemmas.{braces_are, pushed, text_grown_twice, told_text}
use Rattle.lot_register.proofs.line.push_braces.Goals as goal

pub returns : goal.returns
returns c =
    let lot = c.args.lot.now in
    let old = string_bytes c.args.text.now in
    told_text c.push_str.result (string_bytes c.push_str.new.self) old _ _ (braces_are (amount_text 0 8 (pos lot.number)) lot.currency (day_text lot.day) (label_text lot.label))
    (text_grown_twice c.push_str.result old (string_bytes c.push_all.new.text) (string_bytes c.push_label.new.text) (string_bytes c.push_str.new.self)
    (codes " {" ∷ amount_text 0 8 (pos lot.number) ∷ codes " " ∷ lot.currency ∷ codes ", " ∷ day_text lot.day ∷ [])
    (label_text lot.label) (codes "}")
    (c.in_ok-push_all.ensures
    ∙ ap (λ (texts : List (List ℕ)). old ++ flat_map (λ (t : List ℕ). t) texts)
    (λ i.
    codes " {"
    ∷ (c.as_str.ensures.value ∙ c.in_ok-number.ensures) i
    ∷ codes " "
    ∷ c.as_str-2.ensures.value i
    ∷ codes ", "
    ∷ (c.as_str-3.ensures.value ∙ c.in_ok-day.ensures) i
    ∷ []))
    c.in_ok-push_label.ensures (pushed c.push_str.result (string_bytes c.push_str.new.self) (string_bytes c.push_label.new.text) (codes "}") c.push_str.ensures.bytes))
