use Rattle.std.proofs.Common.{[], ◌∷◌, refl}
use Rattle.std.specs.Prelude.{codes}
use Rattle.std.specs.String.{string_bytes}
use Rattle.lot_csv.specs.Shares.{lot_cost}
use Rattle.lot_cells.specs.Cell.{money_cell}
use Rattle.lot_cells.proofs.AppendLemmas.{appended, pushed}
use Rattle.lot_cells.proofs.sales.push_unpriced.Goals as goal

pub returns : goal.returns
returns c =
    appended c.push_str-2.result (string_bytes c.args.text.now)
    (codes "<td class=\"n\"></td>" ∷ money_cell (lot_cost c.args.leg.now) ∷ [])
    (codes "<td class=\"n\">unpriced</td>") (string_bytes c.push_money.new.text) (string_bytes c.push_str-2.new.self)
    (_, c.in_ok-push_str.ensures.bytes, (_, rw c.lot_cost.ensures.value at c.in_ok-push_money.ensures, refl))
    (pushed c.push_str-2.result (string_bytes c.push_money.new.text) (codes "<td class=\"n\">unpriced</td>") (string_bytes c.push_str-2.new.self) c.push_str-2.ensures.bytes)
