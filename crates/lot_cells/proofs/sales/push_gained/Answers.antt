use Rattle.std.proofs.Common.{[], ◌∷◌, refl}
use Rattle.std.specs.String.{string_bytes}
use Rattle.lot_csv.specs.Shares.{lot_cost}
use Rattle.lot_cells.specs.Cell.{money_cell, money_gain_cell}
use Rattle.lot_cells.proofs.AppendLemmas.{appended}
use Rattle.lot_cells.proofs.sales.push_gained.Goals as goal

pub returns : goal.returns
returns c =
    appended c.push_money_gain.result (string_bytes c.args.text.now)
    (money_cell c.args.gain.now.proceeds ∷ money_cell (lot_cost c.args.leg.now) ∷ [])
    (money_gain_cell c.args.gain.now.gain) (string_bytes c.push_money-2.new.text) (string_bytes c.push_money_gain.new.text)
    (_, c.in_ok-push_money.ensures, (_, rw c.lot_cost.ensures.value at c.in_ok-push_money-2.ensures, refl))
    (c.push_money_gain.ensures)
