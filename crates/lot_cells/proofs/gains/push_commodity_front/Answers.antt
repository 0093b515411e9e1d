use Rattle.std.proofs.Common.{[], ◌∷◌, refl}
use Rattle.std.specs.Prelude.{codes}
use Rattle.std.specs.String.{string_bytes}
use Rattle.lot_html.specs.Html.{element_text}
use Rattle.lot_cells.specs.Cell.{name_cell}
use Rattle.lot_cells.proofs.AppendLemmas.{appended}
use Rattle.lot_cells.proofs.gains.push_commodity_front.Goals as goal

pub returns : goal.returns
returns c =
    appended c.push_name_cell.result (string_bytes c.args.text.now)
    (codes "<tr><th scope=\"row\">" ∷ element_text (codes "bdi") [] c.args.commodity.now ∷ codes "</th>" ∷ [])
    (name_cell c.args.currency.now) (string_bytes c.push_str-2.new.self) (string_bytes c.push_name_cell.new.text)
    (_, c.in_ok-push_str.ensures.bytes, (_, c.in_ok-push_name.ensures, (_, c.in_ok-push_str-2.ensures.bytes, refl)))
    (rw c.as_str.ensures.value at c.push_name_cell.ensures)
