use Rattle.std.proofs.Common.{[], ◌∷◌, refl}
use Rattle.std.specs.Prelude.{codes}
use Rattle.std.specs.String.{string_bytes}
use Rattle.lot_cells.specs.Cell.{name_cell}
use Rattle.lot_cells.specs.Holdings.{position_cells}
use Rattle.lot_cells.proofs.AppendLemmas.{appended, pushed}
use Rattle.lot_cells.proofs.holdings.push_holding.Goals as goal

pub returns : goal.returns
returns c =
    appended c.push_str-2.result (string_bytes c.args.text.now)
    (codes "<tr>" ∷ name_cell c.args.row.now.holding.commodity ∷ position_cells c.args.row.now.holding.lot c.args.row.now.holding.units c.args.row.now.valuation c.args.totals.now ∷ [])
    (codes "</tr>\n") (string_bytes c.push_position.new.text) (string_bytes c.push_str-2.new.self)
    (_, c.in_ok-push_str.ensures.bytes, (_, rw c.as_str.ensures.value at c.in_ok-push_name_cell.ensures, (_, c.in_ok-push_position.ensures, refl)))
    (pushed c.push_str-2.result (string_bytes c.push_position.new.text) (codes "</tr>\n") (string_bytes c.push_str-2.new.self) c.push_str-2.ensures.bytes)
