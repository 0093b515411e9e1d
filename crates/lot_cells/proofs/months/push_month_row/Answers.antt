use Rattle.std.proofs.Common.{[], ◌∷◌, refl}
use Rattle.std.specs.Prelude.{codes}
use Rattle.std.specs.String.{string_bytes}
use Rattle.lot_plot.specs.Month.{month_text}
use Rattle.lot_cells.specs.Months.{point_cells}
use Rattle.lot_cells.proofs.AppendLemmas.{appended, pushed}
use Rattle.lot_cells.proofs.months.push_month_row.Goals as goal

pub returns : goal.returns
returns c =
    appended c.push_str-3.result (string_bytes c.args.text.now)
    (codes "<tr><th scope=\"row\">" ∷ month_text c.args.month.0 ∷ codes "</th>" ∷ point_cells c.args.point.now.worth c.args.point.now.cost ∷ [])
    (codes "</tr>\n") (string_bytes c.push_point.new.text) (string_bytes c.push_str-3.new.self)
    (_, c.in_ok-push_str.ensures.bytes, (_, c.in_ok-push_month.ensures, (_, c.in_ok-push_str-2.ensures.bytes, (_, c.in_ok-push_point.ensures, refl))))
    (pushed c.push_str-3.result (string_bytes c.push_point.new.text) (codes "</tr>\n") (string_bytes c.push_str-3.new.self) c.push_str-3.ensures.bytes)
