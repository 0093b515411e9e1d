use Rattle.std.proofs.Common.{[], ◌∷◌, refl}
use Rattle.std.specs.Prelude.{pos, ◌-ℤ◌}
use Rattle.std.specs.String.{string_bytes}
use Rattle.lot_num.specs.AmountText.{amount_text}
use Rattle.lot_cells.specs.Cell.{money_cell, money_gain_cell, name_cell, number_cell}
use Rattle.lot_cells.specs.Holdings.{share_cell, share_of, value_at}
use Rattle.lot_cells.proofs.AppendLemmas.{appended}
use Rattle.lot_cells.proofs.holdings.push_valued.Goals as goal

pub returns : goal.returns
returns c =
    appended c.push_share.result (string_bytes c.args.text.now)
    (number_cell (amount_text 0 8 (pos c.args.price)) ∷ money_cell (value_at c.args.units c.args.price) ∷ money_gain_cell (value_at c.args.units c.args.price -ℤ value_at c.args.units c.args.lot.now.number) ∷ name_cell c.args.lot.now.currency ∷ [])
    (share_cell (share_of (value_at c.args.units c.args.price) c.args.totals.now)) (string_bytes c.push_name_cell.new.text) (string_bytes c.push_share.new.text)
    (_, rw (c.as_str.ensures.value, c.in_ok-number.ensures) at c.in_ok-push_number.ensures, (_, rw c.weight.ensures.value at c.in_ok-push_money.ensures, (_, rw c.unrealised.ensures at c.in_ok-push_money_gain.ensures, (_, rw c.as_str-2.ensures.value at c.in_ok-push_name_cell.ensures, refl))))
    (rw (c.share_of.ensures, c.weight-2.ensures.value) at c.push_share.ensures)
