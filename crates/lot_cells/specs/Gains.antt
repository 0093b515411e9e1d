-- The rows of what sales gained, by year and by commodity, on a page: those of the report (docs/FORMATS.md, Page).
use Rattle.std.specs.Prelude.{ℕ, ℤ, List, [], ◌∷◌, ◌++◌, codes, decimal}
use Rattle.lot_html.specs.Html.{element_text}
use Rattle.lot_html.specs.Text.{escaped}
use Rattle.lot_tally.specs.Table.{unless_none}
use Rattle.lot_tally.specs.declared.sums.RowSums.{RowSums}
use Rattle.lot_cells.specs.Cell.{cells, money_cell, money_gain_cell, name_cell, no_number, no_text, number_cell}

-- what lots with a gain went for, cost and gained, behind the keys of their row
abbrev pub priced_cells : RowSums → List ℕ
priced_cells sums =
    cells
    (number_cell (decimal sums.priced_lots) ∷ money_cell sums.proceeds ∷ money_cell sums.cost ∷ money_gain_cell sums.gain
    ∷ codes "</tr>\n" ∷ [])

-- what lots without one cost
abbrev pub unpriced_cells : RowSums → List ℕ
unpriced_cells sums =
    cells
    (number_cell (decimal sums.unpriced_lots) ∷ no_number ∷ money_cell sums.unpriced_cost
    ∷ codes "<td class=\"n\">unpriced</td></tr>\n" ∷ [])

-- a row of each, where there are such lots
abbrev pub sums_html : List ℕ → RowSums → List ℕ
sums_html front sums =
    unless_none sums.priced_lots (front ++ priced_cells sums) ++ unless_none sums.unpriced_lots (front ++ unpriced_cells sums)

-- what a row begins with: a year, or a commodity and a currency
abbrev pub year_front : List ℕ → List ℕ
year_front year = cells (codes "<tr><th scope=\"row\">" ∷ escaped year ∷ codes "</th>" ∷ [])

abbrev pub commodity_front : List ℕ → List ℕ → List ℕ
commodity_front commodity currency =
    cells
    (codes "<tr><th scope=\"row\">" ∷ element_text (codes "bdi") [] commodity ∷ codes "</th>" ∷ name_cell currency ∷ [])

abbrev pub year_html : List ℕ → RowSums → List ℕ
year_html year sums = sums_html (year_front year) sums

abbrev pub commodity_html : List ℕ → List ℕ → RowSums → List ℕ
commodity_html commodity currency sums = sums_html (commodity_front commodity currency) sums

-- what all sales gained in a currency
abbrev pub gain_total_html : List ℕ → ℤ → List ℕ
gain_total_html currency total =
    cells
    (codes "<tr><th scope=\"row\">Total</th>" ∷ name_cell currency ∷ no_text ∷ no_text ∷ no_text ∷ money_gain_cell total
    ∷ codes "</tr>\n" ∷ [])
