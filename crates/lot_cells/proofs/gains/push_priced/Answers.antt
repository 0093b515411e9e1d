use Rattle.std.proofs.Common.{[], ◌∷◌, refl}
use Rattle.std.specs.Prelude.{codes, decimal}
use Rattle.std.specs.String.{string_bytes}
use Rattle.lot_cells.specs.Cell.{money_cell, money_gain_cell, number_cell}
use Rattle.lot_cells.proofs.AppendLemmas.{appended, pushed}
use Rattle.lot_cells.proofs.gains.push_priced.Goals as goal

pub returns : goal.returns
returns c =
    appended c.push_str.result (string_bytes c.args.text.now)
    (number_cell (decimal c.args.sums.now.priced_lots) ∷ money_cell c.args.sums.now.proceeds ∷ money_cell c.args.sums.now.cost ∷ money_gain_cell c.args.sums.now.gain ∷ [])
    (codes "</tr>\n") (string_bytes c.push_money_gain.new.text) (string_bytes c.push_str.new.self)
    (_, c.in_ok-push_lots.ensures, (_, c.in_ok-push_money.ensures, (_, c.in_ok-push_money-2.ensures, (_, c.in_ok-push_money_gain.ensures, refl))))
    (pushed c.push_str.result (string_bytes c.push_money_gain.new.text) (codes "</tr>\n") (string_bytes c.push_str.new.self) c.push_str.ensures.bytes)
