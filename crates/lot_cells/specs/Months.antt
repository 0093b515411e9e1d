-- The rows of what lots come to at the end of a month, on a page (docs/FORMATS.md, Page).
use Rattle.std.specs.Prelude.{ℕ, ℤ, List, [], ◌∷◌, Option, None, Some, codes}
use Rattle.lot_plot.specs.Month.{month_text}
use Rattle.lot_plot.specs.declared.lines.MonthPoint.{MonthPoint}
use Rattle.lot_plot.specs.declared.month.Month.{Month}
use Rattle.lot_cells.specs.Cell.{cells, gain_over_cell, money_cell, no_number}

-- what lots with a price are worth, what they cost, and what they would gain
abbrev pub worth_cells : ℤ → ℤ → List ℕ
worth_cells worth cost = cells (money_cell worth ∷ money_cell cost ∷ gain_over_cell worth cost ∷ [])

-- without a price only the cost is known
abbrev pub cost_cells : ℤ → List ℕ
cost_cells cost = cells (codes "<td class=\"n\">no price</td>" ∷ money_cell cost ∷ no_number ∷ [])

abbrev pub point_cells : Option ℤ → ℤ → List ℕ
point_cells None cost = cost_cells cost
point_cells (Some worth) cost = worth_cells worth cost

abbrev pub month_html : Month → MonthPoint → List ℕ
month_html month point =
    cells
    (codes "<tr><th scope=\"row\">" ∷ month_text month.0 ∷ codes "</th>" ∷ point_cells point.worth point.cost ∷ codes "</tr>\n" ∷ [])
