use Rattle.std.proofs.Common.{◌≡◌, [], ◌∷◌, OnOk, subst}
use Rattle.std.specs.Prelude.{codes}
use Rattle.std.specs.String.{string_bytes}
use Rattle.lot_html.specs.Html.{close_tag, open_tag}
use Rattle.lot_html.specs.Number.{grouped}
use Rattle.lot_html.proofs.DigitLemmas.{three_behind}
use Rattle.lot_html.proofs.number.push_data.Goals as goal

pub returns : goal.returns
returns c =
    let number = c.args.number.now in
    subst (λ before. OnOk c.push_close.result (string_bytes c.push_close.new.text ≡ before))
    (three_behind (string_bytes c.args.text.now) _ _ (open_tag (codes "data") ((codes "value", number) ∷ [])) (grouped number)
    (close_tag (codes "data")) c.in_ok-push_open.ensures c.in_ok-push_grouped.ensures)
    c.push_close.ensures
