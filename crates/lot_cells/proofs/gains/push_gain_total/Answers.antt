use Rattle.std.proofs.Common.{[], ◌∷◌, refl}
use Rattle.std.specs.Prelude.{codes}
use Rattle.std.specs.String.{string_bytes}
use Rattle.lot_cells.specs.Cell.{money_gain_cell, name_cell}
use Rattle.lot_cells.proofs.AppendLemmas.{appended, pushed}
use Rattle.lot_cells.proofs.gains.push_gain_total.Goals as goal

pub returns : goal.returns
returns c =
    appended c.push_str-3.result (string_bytes c.args.text.now)
    (codes "<tr><th scope=\"row\">Total</th>" ∷ name_cell c.args.currency.now ∷ codes "<td></td><td></td><td></td>" ∷ money_gain_cell c.args.total ∷ [])
    (codes "</tr>\n") (string_bytes c.push_money_gain.new.text) (string_bytes c.push_str-3.new.self)
    (_, c.in_ok-push_str.ensures.bytes, (_, rw c.as_str.ensures.value at c.in_ok-push_name_cell.ensures, (_, c.in_ok-push_str-2.ensures.bytes, (_, c.in_ok-push_money_gain.ensures, refl))))
    (pushed c.push_str-3.result (string_bytes c.push_money_gain.new.text) (codes "</tr>\n") (string_bytes c.push_str-3.new.self) c.push_str-3.ensures.bytes)
