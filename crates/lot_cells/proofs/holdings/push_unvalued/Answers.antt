use Rattle.std.proofs.Common.{[], ◌∷◌, refl}
use Rattle.std.specs.Prelude.{codes}
use Rattle.std.specs.String.{string_bytes}
use Rattle.lot_cells.specs.Cell.{name_cell}
use Rattle.lot_cells.proofs.AppendLemmas.{appended, pushed}
use Rattle.lot_cells.proofs.holdings.push_unvalued.Goals as goal

pub returns : goal.returns
returns c =
    appended c.push_str-2.result (string_bytes c.args.text.now)
    (codes "<td class=\"n\" colspan=\"3\">no price</td>" ∷ name_cell c.args.lot.now.currency ∷ [])
    (codes "<td></td>") (string_bytes c.push_name_cell.new.text) (string_bytes c.push_str-2.new.self)
    (_, c.in_ok-push_str.ensures.bytes, (_, rw c.as_str.ensures.value at c.in_ok-push_name_cell.ensures, refl))
    (pushed c.push_str-2.result (string_bytes c.push_name_cell.new.text) (codes "<td></td>") (string_bytes c.push_str-2.new.self) c.push_str-2.ensures.bytes)
