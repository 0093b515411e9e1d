use Rattle.std.proofs.Common.{◌++◌, ◌∙◌, ap, arith, map}
use Rattle.std.specs.String.{string_bytes}
use Rattle.std.proofs.lemmas.List.{take_all}
use Rattle.lot_html.specs.Html.{attributes_text}
use Rattle.lot_html.proofs.element.push_attributes.Goals as goal

pub returns : goal.returns
returns c =
    c.loop-name.invariant
    ∙ ap (λ pairs. string_bytes c.args.text.now ++ attributes_text (map (λ pair. (pair.0.now, pair.1.now)) pairs))
    (take_all c.loop-name.name-index c.args.attributes.now (omega arith))
