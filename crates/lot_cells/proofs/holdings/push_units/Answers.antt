use Rattle.std.proofs.Common.{[], ◌∷◌, refl}
use Rattle.std.specs.Prelude.{codes}
use Rattle.std.specs.String.{string_bytes}
use Rattle.lot_num.specs.AmountText.{amount_text}
use Rattle.lot_cells.specs.Cell.{number_cell}
use Rattle.lot_cells.proofs.AppendLemmas.{appended, pushed}
use Rattle.lot_cells.proofs.holdings.push_units.Goals as goal

pub returns : goal.returns
returns c =
    appended c.push_str.result (string_bytes c.args.text.now)
    (number_cell (amount_text 2 8 c.args.units) ∷ [])
    (codes "<td colspan=\"9\"></td>") (string_bytes c.push_number.new.text) (string_bytes c.push_str.new.self)
    (_, rw (c.as_str.ensures.value, c.in_ok-number.ensures) at c.in_ok-push_number.ensures, refl)
    (pushed c.push_str.result (string_bytes c.push_number.new.text) (codes "<td colspan=\"9\"></td>") (string_bytes c.push_str.new.self) c.push_str.ensures.bytes)
