use Rattle.std.proofs.Common.{[], ◌∷◌, refl}
use Rattle.std.specs.Prelude.{pos}
use Rattle.std.specs.String.{string_bytes}
use Rattle.lot_num.specs.AmountText.{amount_text}
use Rattle.lot_base.specs.Day.{day_text}
use Rattle.lot_cells.specs.Cell.{money_cell, number_cell, optional_name, plain_cell}
use Rattle.lot_cells.specs.Holdings.{value_at, value_cells}
use Rattle.lot_cells.proofs.AppendLemmas.{appended}
use Rattle.lot_cells.proofs.holdings.push_lot.Goals as goal

pub returns : goal.returns
returns c =
    appended c.push_value.result (string_bytes c.args.text.now)
    (number_cell (amount_text 0 8 c.args.units) ∷ plain_cell (day_text c.args.lot.now.day) ∷ optional_name c.args.lot.now.label ∷ number_cell (amount_text 0 8 (pos c.args.lot.now.number)) ∷ money_cell (value_at c.args.units c.args.lot.now.number) ∷ [])
    (value_cells c.args.lot.now c.args.units c.args.valuation c.args.totals.now) (string_bytes c.push_money.new.text) (string_bytes c.push_value.new.text)
    (_, rw (c.as_str.ensures.value, c.in_ok-number.ensures) at c.in_ok-push_number.ensures, (_, rw (c.as_str-2.ensures.value, c.in_ok-acquired.ensures) at c.in_ok-push_plain.ensures, (_, c.in_ok-push_label.ensures, (_, rw (c.as_str-3.ensures.value, c.in_ok-cost.ensures) at c.in_ok-push_number-2.ensures, (_, rw c.weight.ensures.value at c.in_ok-push_money.ensures, refl)))))
    (c.push_value.ensures)
