use Rattle.std.proofs.Common.{[], ◌∷◌, refl}
use Rattle.std.specs.Prelude.{codes}
use Rattle.std.specs.String.{string_bytes}
use Rattle.lot_cells.specs.Cell.{money_cell, name_cell}
use Rattle.lot_cells.specs.Holdings.{total_cells}
use Rattle.lot_cells.proofs.AppendLemmas.{appended, pushed}
use Rattle.lot_cells.proofs.holdings.push_lot_total.Goals as goal

pub returns : goal.returns
returns c =
    appended c.push_str-3.result (string_bytes c.args.text.now)
    (codes "<tr><th colspan=\"5\" scope=\"row\">Total</th>" ∷ money_cell c.args.totals.now.cost ∷ codes "<td></td>" ∷ total_cells c.args.totals.now.valued ∷ name_cell c.args.currency.now ∷ [])
    (codes "<td></td></tr>\n") (string_bytes c.push_name_cell.new.text) (string_bytes c.push_str-3.new.self)
    (_, c.in_ok-push_str.ensures.bytes, (_, c.in_ok-push_money.ensures, (_, c.in_ok-push_str-2.ensures.bytes, (_, c.in_ok-push_all_valued.ensures, (_, rw c.as_str.ensures.value at c.in_ok-push_name_cell.ensures, refl)))))
    (pushed c.push_str-3.result (string_bytes c.push_name_cell.new.text) (codes "<td></td></tr>\n") (string_bytes c.push_str-3.new.self) c.push_str-3.ensures.bytes)
