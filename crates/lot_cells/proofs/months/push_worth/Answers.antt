use Rattle.std.proofs.Common.{[], ◌∷◌, refl}
use Rattle.std.specs.String.{string_bytes}
use Rattle.lot_cells.specs.Cell.{gain_over_cell, money_cell}
use Rattle.lot_cells.proofs.AppendLemmas.{appended}
use Rattle.lot_cells.proofs.months.push_worth.Goals as goal

pub returns : goal.returns
returns c =
    appended c.push_gain_over.result (string_bytes c.args.text.now)
    (money_cell c.args.worth ∷ money_cell c.args.cost ∷ [])
    (gain_over_cell c.args.worth c.args.cost) (string_bytes c.push_money-2.new.text) (string_bytes c.push_gain_over.new.text)
    (_, c.in_ok-push_money.ensures, (_, c.in_ok-push_money-2.ensures, refl))
    (c.push_gain_over.ensures)
