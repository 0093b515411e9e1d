use Rattle.std.proofs.Common.{◌≡◌, ◌++◌, map, take}
use Rattle.std.specs.String.{string_bytes}
use Rattle.lot_html.specs.Html.{attributes_text}
use Rattle.lot_html.proofs.element.push_attributes.Given as goal

-- the first attributes are appended
abbrev pub invariant-loop-name : goal.invariant-loop-name
invariant-loop-name l =
    string_bytes l.text
    ≡ string_bytes l.initial.text ++ attributes_text (map (λ pair. (pair.0.now, pair.1.now)) (take l.name-index l.attributes))
