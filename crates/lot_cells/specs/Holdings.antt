-- The rows of what accounts hold, on a page: those of the report, with gains and shares (docs/FORMATS.md, Page).
use Rattle.std.specs.Prelude.{◌==◌, ℕ, ℤ, pos, ◌*◌, ◌/◌, ◌+ℤ◌, ◌-ℤ◌, ◌*ℤ◌, ◌&&◌, Bool, true, if◌then◌else◌, nat_abs, nat_lt, min, List, [], ◌∷◌, Option, None, Some, codes}
use Rattle.lot_num.specs.AmountText.{amount_text}
use Rattle.lot_base.specs.Day.{day_text}
use Rattle.lot_cost.specs.declared.lot_key.LotKey.{LotKey}
use Rattle.lot_html.specs.Html.{element_text}
use Rattle.lot_plot.specs.Plot.{percent_text, step_of}
use Rattle.lot_report.specs.declared.holdings.ValuedHolding.{ValuedHolding}
use Rattle.lot_report.specs.Report.{is_wide}
use Rattle.lot_report.specs.declared.lot.Valuation.{Valuation}
use Rattle.lot_report.specs.declared.lot.Valuation.TheVariants.{At, Missing, Unasked}
use Rattle.lot_cells.specs.Cell.{cells, money_cell, money_gain_cell, name_cell, no_text, number_cell, optional_name, plain_cell}
use Rattle.lot_cells.specs.declared.holdings.LotTotals.{LotTotals}
use Rattle.lot_cells.specs.declared.holdings.Valued.{Valued}

-- ---- totals

-- what lots with a price come to, where there is none so far
abbrev pub nothing_valued : Valued
nothing_valued = record { value = pos 0; gain = pos 0; size = pos 0 }

abbrev pub valued_or_nothing : Option Valued → Valued
valued_or_nothing None = nothing_valued
valued_or_nothing (Some valued) = valued

-- the value of units at a price, and what they gain beyond their cost
abbrev pub value_at : ℤ → ℕ → ℤ
value_at units price = units *ℤ pos price

abbrev pub valued_with : Valued → ℤ → ℤ → Valued
valued_with valued value gain = record {
  value = valued.value +ℤ value;
  gain = valued.gain +ℤ gain;
  size = valued.size +ℤ pos (nat_abs value);
}

abbrev pub priced_with : Option Valued → LotKey → ℤ → Valuation → Option Valued
priced_with valued lot units (At price) =
    Some (valued_with (valued_or_nothing valued) (value_at units price) (value_at units price -ℤ value_at units lot.number))
priced_with valued lot units Missing = valued
priced_with valued lot units Unasked = valued

-- totals with one more lot of so many units
abbrev pub totals_with : LotTotals → LotKey → ℤ → Valuation → LotTotals
totals_with totals lot units valuation = record {
  cost = totals.cost +ℤ value_at units lot.number;
  valued = priced_with totals.valued lot units valuation;
}

-- whether each sum to which the lot adds stays in the range of weights
abbrev pub valued_fits : Valued → ℤ → ℤ → Bool
valued_fits valued value gain =
    is_wide (valued.value +ℤ value) && is_wide (valued.gain +ℤ gain) && is_wide (valued.size +ℤ pos (nat_abs value))

abbrev pub priced_fits : Option Valued → LotKey → ℤ → Valuation → Bool
priced_fits valued lot units (At price) =
    valued_fits (valued_or_nothing valued) (value_at units price) (value_at units price -ℤ value_at units lot.number)
priced_fits valued lot units Missing = true
priced_fits valued lot units Unasked = true

abbrev pub has_room : LotTotals → LotKey → ℤ → Valuation → Bool
has_room totals lot units valuation =
    is_wide (totals.cost +ℤ value_at units lot.number) && priced_fits totals.valued lot units valuation

-- ---- shares

abbrev pub size_in : Option Valued → ℤ
size_in None = pos 0
size_in (Some valued) = valued.size

-- a thousand times a value below it has at most 128 bits
abbrev pub large : ℕ
large = 332306998946228968225951765070086144

-- how many thousandths of a sum a value is, rounded down; of a large value it may be one less
abbrev pub thousandths_of : ℕ → ℤ → ℕ
thousandths_of value all =
    if nat_abs all == 0 then 0
    else if nat_lt value large then value * 1000 / nat_abs all
    else value / nat_abs (step_of all)

-- the share of a value in those of all lots, whatever their signs
abbrev pub share_of : ℤ → LotTotals → ℕ
share_of value totals = min (thousandths_of (nat_abs value) (size_in totals.valued)) 1000

-- a share with its bar, both in percents
abbrev pub bar_cell : List ℕ → List ℕ
bar_cell percent =
    cells
    (codes "<td class=\"n\"><data value=\"" ∷ percent ∷ codes "\">" ∷ percent
    ∷ codes "%</data><svg class=\"share\" aria-hidden=\"true\"><rect width=\"" ∷ percent
    ∷ codes "%\" height=\"100%\"></rect></svg></td>" ∷ [])

abbrev pub share_cell : ℕ → List ℕ
share_cell share = bar_cell (percent_text share)

-- ---- rows

-- the row that names an account
abbrev pub account_html : List ℕ → List ℕ
account_html account =
    cells
    (codes "<tr class=\"by\"><th colspan=\"11\" scope=\"rowgroup\">" ∷ element_text (codes "bdi") [] account ∷ codes "</th></tr>\n"
    ∷ [])

-- what stands behind the cost of a lot: its price, its value, what it would gain, its currency and its share
abbrev pub valued_cells : LotKey → ℤ → ℕ → LotTotals → List ℕ
valued_cells lot units price totals =
    cells
    (number_cell (amount_text 0 8 (pos price)) ∷ money_cell (value_at units price)
    ∷ money_gain_cell (value_at units price -ℤ value_at units lot.number) ∷ name_cell lot.currency
    ∷ share_cell (share_of (value_at units price) totals) ∷ [])

-- the same of a lot without a price
abbrev pub unvalued_cells : LotKey → List ℕ
unvalued_cells lot = cells (codes "<td class=\"n\" colspan=\"3\">no price</td>" ∷ name_cell lot.currency ∷ no_text ∷ [])

abbrev pub value_cells : LotKey → ℤ → Valuation → LotTotals → List ℕ
value_cells lot units (At price) totals = valued_cells lot units price totals
value_cells lot units Missing totals = unvalued_cells lot
value_cells lot units Unasked totals = unvalued_cells lot

-- what stands behind the commodity: of plain units, and of those in a lot
abbrev pub units_cells : ℤ → List ℕ
units_cells units = cells (number_cell (amount_text 2 8 units) ∷ codes "<td colspan=\"9\"></td>" ∷ [])

abbrev pub lot_cells : LotKey → ℤ → Valuation → LotTotals → List ℕ
lot_cells lot units valuation totals =
    cells
    (number_cell (amount_text 0 8 units) ∷ plain_cell (day_text lot.day) ∷ optional_name lot.label
    ∷ number_cell (amount_text 0 8 (pos lot.number)) ∷ money_cell (value_at units lot.number)
    ∷ value_cells lot units valuation totals ∷ [])

abbrev pub position_cells : Option LotKey → ℤ → Valuation → LotTotals → List ℕ
position_cells None units valuation totals = units_cells units
position_cells (Some lot) units valuation totals = lot_cells lot units valuation totals

-- the row of a holding, with the totals of the lots in its currency
abbrev pub holding_html : ValuedHolding → LotTotals → List ℕ
holding_html row totals =
    cells
    (codes "<tr>" ∷ name_cell row.holding.commodity ∷ position_cells row.holding.lot row.holding.units row.valuation totals
    ∷ codes "</tr>\n" ∷ [])

abbrev pub total_cells : Option Valued → List ℕ
total_cells None = cells (no_text ∷ no_text ∷ [])
total_cells (Some valued) = cells (money_cell valued.value ∷ money_gain_cell valued.gain ∷ [])

-- the row of what all lots in a currency come to
abbrev pub lot_total_html : List ℕ → LotTotals → List ℕ
lot_total_html currency totals =
    cells
    (codes "<tr><th colspan=\"5\" scope=\"row\">Total</th>" ∷ money_cell totals.cost ∷ no_text ∷ total_cells totals.valued
    ∷ name_cell currency ∷ codes "<td></td></tr>\n" ∷ [])
