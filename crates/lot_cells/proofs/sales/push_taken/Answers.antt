use Rattle.std.proofs.Common.{[], ◌∷◌, refl}
use Rattle.std.specs.Prelude.{pos, ◌-ℤ◌}
use Rattle.std.specs.String.{string_bytes}
use Rattle.std.specs.Fmt.{signed_decimal}
use Rattle.lot_num.specs.AmountText.{amount_text}
use Rattle.lot_base.specs.Day.{day_text}
use Rattle.lot_period.specs.Term.{term_of, term_text}
use Rattle.lot_cells.specs.Cell.{number_cell, optional_name, plain_cell}
use Rattle.lot_cells.proofs.AppendLemmas.{appended}
use Rattle.lot_cells.proofs.sales.push_taken.Goals as goal

pub returns : goal.returns
returns c =
    appended c.push_number-2.result (string_bytes c.args.text.now)
    (number_cell (amount_text 0 8 c.args.leg.now.1) ∷ plain_cell (day_text c.args.leg.now.0.day) ∷ number_cell (signed_decimal (c.args.sold -ℤ c.args.leg.now.0.day)) ∷ plain_cell (term_text (term_of c.args.leg.now.0.day c.args.sold)) ∷ optional_name c.args.leg.now.0.label ∷ [])
    (number_cell (amount_text 0 8 (pos c.args.leg.now.0.number))) (string_bytes c.push_label.new.text) (string_bytes c.push_number-2.new.text)
    (_, rw (c.as_str.ensures.value, c.in_ok-units.ensures) at c.in_ok-push_number.ensures, (_, rw (c.as_str-2.ensures.value, c.in_ok-acquired.ensures) at c.in_ok-push_plain.ensures, (_, c.in_ok-push_days.ensures, (_, rw (c.as_str-3.ensures, c.term_of.ensures) at c.in_ok-push_plain-2.ensures, (_, c.in_ok-push_label.ensures, refl)))))
    (rw (c.as_str-4.ensures.value, c.in_ok-number.ensures) at c.push_number-2.ensures)
