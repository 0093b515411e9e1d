use Rattle.std.proofs.Common.{[], ◌∷◌, refl}
use Rattle.std.specs.Prelude.{codes, decimal}
use Rattle.std.specs.String.{string_bytes}
use Rattle.lot_cells.specs.Cell.{money_cell, number_cell}
use Rattle.lot_cells.proofs.AppendLemmas.{appended, pushed}
use Rattle.lot_cells.proofs.gains.push_unpriced.Goals as goal

pub returns : goal.returns
returns c =
    appended c.push_str-2.result (string_bytes c.args.text.now)
    (number_cell (decimal c.args.sums.now.unpriced_lots) ∷ codes "<td class=\"n\"></td>" ∷ money_cell c.args.sums.now.unpriced_cost ∷ [])
    (codes "<td class=\"n\">unpriced</td></tr>\n") (string_bytes c.push_money.new.text) (string_bytes c.push_str-2.new.self)
    (_, c.in_ok-push_lots.ensures, (_, c.in_ok-push_str.ensures.bytes, (_, c.in_ok-push_money.ensures, refl)))
    (pushed c.push_str-2.result (string_bytes c.push_money.new.text) (codes "<td class=\"n\">unpriced</td></tr>\n") (string_bytes c.push_str-2.new.self) c.push_str-2.ensures.bytes)
