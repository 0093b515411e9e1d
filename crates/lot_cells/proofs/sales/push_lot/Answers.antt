use Rattle.std.proofs.Common.{[], ◌∷◌, refl}
use Rattle.std.specs.Prelude.{codes}
use Rattle.std.specs.String.{string_bytes}
use Rattle.lot_cells.specs.Cell.{name_cell}
use Rattle.lot_cells.specs.Sales.{result_cells, sold_cell, taken_cells}
use Rattle.lot_cells.proofs.AppendLemmas.{appended, pushed}
use Rattle.lot_cells.proofs.sales.push_lot.Goals as goal

pub returns : goal.returns
returns c =
    appended c.push_str.result (string_bytes c.args.text.now)
    (sold_cell c.args.target.now c.args.sale.now.day ∷ name_cell c.args.sale.now.account ∷ name_cell c.args.sale.now.commodity ∷ taken_cells c.args.sale.now.day c.args.leg.now ∷ result_cells c.args.leg.now c.args.gain.now ∷ name_cell c.args.leg.now.0.currency ∷ [])
    (codes "</tr>\n") (string_bytes c.push_name_cell-3.new.text) (string_bytes c.push_str.new.self)
    (_, rw c.day.ensures at c.in_ok-push_sold.ensures, (_, rw (c.as_str.ensures.value, c.account.ensures) at c.in_ok-push_name_cell.ensures, (_, rw (c.as_str-2.ensures.value, c.commodity.ensures) at c.in_ok-push_name_cell-2.ensures, (_, rw c.day-2.ensures at c.in_ok-push_taken.ensures, (_, c.in_ok-push_result.ensures, (_, rw c.as_str-3.ensures.value at c.in_ok-push_name_cell-3.ensures, refl))))))
    (pushed c.push_str.result (string_bytes c.push_name_cell-3.new.text) (codes "</tr>\n") (string_bytes c.push_str.new.self) c.push_str.ensures.bytes)
