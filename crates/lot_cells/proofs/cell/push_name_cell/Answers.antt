use Rattle.std.proofs.Common.{[], ◌∷◌, refl}
use Rattle.std.specs.Prelude.{codes}
use Rattle.std.specs.String.{string_bytes}
use Rattle.lot_html.specs.Html.{element_text}
use Rattle.lot_cells.proofs.AppendLemmas.{appended, pushed}
use Rattle.lot_cells.proofs.cell.push_name_cell.Goals as goal

pub returns : goal.returns
returns c =
    appended c.push_str-2.result (string_bytes c.args.text.now)
    (codes "<td>" ∷ element_text (codes "bdi") [] c.args.name.now ∷ [])
    (codes "</td>") (string_bytes c.push_name.new.text) (string_bytes c.push_str-2.new.self)
    (_, c.in_ok-push_str.ensures.bytes, (_, c.in_ok-push_name.ensures, refl))
    (pushed c.push_str-2.result (string_bytes c.push_name.new.text) (codes "</td>") (string_bytes c.push_str-2.new.self) c.push_str-2.ensures.bytes)
