-- Rows are balanced: what is in them is, and each is closed behind that.
use Rattle.std.specs.Prelude.{◌==◌, ◌-ℤ◌, Bool, cond, codes, decimal, false, nat_lt, true}
use Rattle.std.specs.Fmt.{signed_decimal}
use Rattle.std.specs.List.{flat_map}
use Rattle.std.specs.String.{string_bytes}
use Rattle.std.proofs.Common.{◌≡◌, ℕ, ℤ, pos, List, [], ◌∷◌, ◌++◌, Option, None, Some, ap, refl, sym, subst, ◌∙◌, append-nil, append_assoc, inl, inr}
use Rattle.std.proofs.lemmas.Bool.{cases_Bool}
use Rattle.lot_base.specs.Day.{day_text}
use Rattle.lot_book.specs.Sale.{SaleParts}
use Rattle.lot_book.specs.declared.gain.Gain.{Gain}
use Rattle.lot_cost.specs.declared.lot_key.LotKey.{LotKey}
use Rattle.lot_csv.specs.Shares.{SoldLot, gain_in, lot_cost, lots_of}
use Rattle.lot_html.proofs.BalanceLemmas.{Closing, attribute, begin, closed, done, each_is_balanced, element_is_balanced, inside, is_balanced, more, none_is_balanced, plainly, quoted, said_is_balanced, saying, says, value}
use Rattle.lot_html.proofs.LawLemmas.{balanced_behind, balanced_inside}
use Rattle.lot_html.specs.Html.{IsBalanced, element_text}
use Rattle.lot_html.specs.Number.{data_text, grouped}
use Rattle.lot_html.specs.Text.{escaped}
use Rattle.lot_num.specs.AmountText.{amount_text}
use Rattle.lot_period.specs.Term.{term_of, term_text}
use Rattle.lot_plot.proofs.BalanceLemmas.{month, number, percent, plain_said}
use Rattle.lot_plot.proofs.PlainLemmas.{ArePlain, amount_plain, decimal_plain, grouped_plain, signed_plain}
use Rattle.lot_plot.specs.Plot.{percent_text}
use Rattle.lot_plot.specs.declared.lines.MonthPoint.{MonthPoint}
use Rattle.lot_plot.specs.declared.month.Month.{Month}
use Rattle.lot_report.specs.Report.{is_wide}
use Rattle.lot_report.specs.declared.holdings.ValuedHolding.{ValuedHolding}
use Rattle.lot_report.specs.declared.journal.Entry.{Entry}
use Rattle.lot_report.specs.declared.lot.Valuation.{Valuation}
use Rattle.lot_report.specs.declared.lot.Valuation.TheVariants.{At, Missing, Unasked}
use Rattle.lot_tally.specs.Table.{unless_none}
use Rattle.lot_tally.specs.declared.sums.RowSums.{RowSums}
use Rattle.lot_cells.specs.Cell.{gain_cell, gain_over_cell, is_below_zero, money_cell, money_gain_cell, name_cell, number_cell, optional_name, plain_cell}
use Rattle.lot_cells.specs.Entry.{Place, behind, command_html, entry_html, inside as within, outside}
use Rattle.lot_cells.specs.Gains.{commodity_front, commodity_html, gain_total_html, priced_cells, unpriced_cells as unpriced_sums, year_front, year_html}
use Rattle.lot_cells.specs.Holdings.{account_html, holding_html, lot_cells, lot_total_html, position_cells, share_cell, share_of, total_cells, unvalued_cells, value_at, value_cells, valued_cells}
use Rattle.lot_cells.specs.Months.{cost_cells, month_html, point_cells, worth_cells}
use Rattle.lot_cells.specs.Sales.{gained_cells, lot_html, result_cells, sale_html, sold_cell, taken_cells, unpriced_cells}
use Rattle.lot_cells.specs.declared.holdings.LotTotals.{LotTotals}
use Rattle.lot_cells.specs.declared.holdings.Valued.{Valued}

-- ---- cells

data_balanced : (bytes : List ℕ) → ArePlain bytes → IsBalanced (data_text bytes)
data_balanced bytes are =
    balanced_inside (codes "data") ((codes "value", bytes) ∷ []) (grouped bytes)
    (said_is_balanced (grouped bytes) (plain_said (grouped bytes) (grouped_plain bytes are)))

number_balanced : (bytes : List ℕ) → ArePlain bytes → IsBalanced (number_cell bytes)
number_balanced bytes are = balanced_inside (codes "td") ((codes "class", codes "n") ∷ []) (data_text bytes) (data_balanced bytes are)

gain_balanced : (bytes : List ℕ) → ArePlain bytes → IsBalanced (gain_cell bytes)
gain_balanced bytes are = elim (cases_Bool (is_below_zero bytes)) [
  | inl is ↦ rw (is) (balanced_inside (codes "td") ((codes "class", codes "n loss") ∷ []) (data_text bytes) (data_balanced bytes are))
  | inr isnt ↦ rw (isnt) (number_balanced bytes are)
]

amount_balanced : (amount : ℤ) → IsBalanced (number_cell (amount_text 0 8 amount))
amount_balanced amount = number_balanced (amount_text 0 8 amount) (amount_plain 0 8 amount)

count_balanced : (count : ℕ) → IsBalanced (number_cell (decimal count))
count_balanced count = number_balanced (decimal count) (decimal_plain count)

money_balanced : (amount : ℤ) → IsBalanced (money_cell amount)
money_balanced amount = number_balanced (amount_text 2 16 amount) (amount_plain 2 16 amount)

money_gain_balanced : (amount : ℤ) → IsBalanced (money_gain_cell amount)
money_gain_balanced amount = gain_balanced (amount_text 2 16 amount) (amount_plain 2 16 amount)

name_balanced : (name : List ℕ) → IsBalanced (name_cell name)
name_balanced name = balanced_inside (codes "td") [] (element_text (codes "bdi") [] name) (element_is_balanced (codes "bdi") [] name)

plain_balanced : (said : List ℕ) → IsBalanced (plain_cell said)
plain_balanced said = element_is_balanced (codes "td") [] said

optional_balanced : (name : Option (List ℕ)) → IsBalanced (optional_name name)
optional_balanced None = element_is_balanced (codes "td") [] []
optional_balanced (Some name) = name_balanced name

gain_over_balanced : (worth cost : ℤ) → IsBalanced (gain_over_cell worth cost)
gain_over_balanced worth cost = elim (cases_Bool (is_wide (worth -ℤ cost))) [
  | inl is ↦ rw (is) (money_gain_balanced (worth -ℤ cost))
  | inr isnt ↦ rw (isnt) (element_is_balanced (codes "td") ((codes "class", codes "n") ∷ []) [])
]

share_balanced : (share : ℕ) → IsBalanced (share_cell share)
share_balanced share =
    (is_balanced _
    (begin (codes "td") (attribute (codes "class") (value (plainly (codes "n") refl) (quoted (inside
    (begin (codes "data") (attribute (codes "value") (value (percent share) (quoted (inside
    (saying (percent share) (saying (plainly (codes "%") refl) (closed (codes "data") (begin (codes "svg")
    (attribute (codes "class") (value (plainly (codes "share") refl) (quoted (attribute (codes "aria-hidden")
    (value (plainly (codes "true") refl) (quoted (inside (begin (codes "rect") (attribute (codes "width")
    (value (percent share) (value (plainly (codes "%") refl) (quoted (attribute (codes "height")
    (value (plainly (codes "100%") refl) (quoted (inside (closed (codes "rect") (closed (codes "svg")
    (closed (codes "td") done))))))))))))))))))))))))))))))))))

-- ---- what sales gained

-- what a row begins with, and what is behind it, apart
year_apart : (year rest : List ℕ) → codes "<tr><th scope=\"row\">" ++ (escaped year ++ (codes "</th>" ++ rest)) ≡ year_front year ++ rest
year_apart year rest = ap (λ (t : List ℕ). codes "<tr><th scope=\"row\">" ++ t) (sym (append_assoc (escaped year) (codes "</th>") rest))

commodity_apart : (commodity currency rest : List ℕ)
    → codes "<tr><th scope=\"row\">" ++ (element_text (codes "bdi") [] commodity ++ (codes "</th>" ++ (name_cell currency ++ rest)))
    ≡ commodity_front commodity currency ++ rest
commodity_apart commodity currency rest =
    let name = element_text (codes "bdi") [] commodity in
    ap (λ (t : List ℕ). codes "<tr><th scope=\"row\">" ++ t)
    (ap (λ (t : List ℕ). name ++ (codes "</th>" ++ (t ++ rest))) (sym (append-nil (name_cell currency)))
    ∙ sym (append_assoc name (codes "</th>" ++ (name_cell currency ++ [])) rest))

unless : (lots : ℕ) (text : List ℕ) → IsBalanced text → IsBalanced (unless_none lots text)
unless lots text balanced = elim (cases_Bool (nat_lt 0 lots)) [
  | inl is ↦ rw (is) balanced
  | inr isnt ↦ rw (isnt) none_is_balanced
]

year_priced : (year : List ℕ) (sums : RowSums) → IsBalanced (year_front year ++ priced_cells sums)
year_priced year sums =
    subst IsBalanced (year_apart year (priced_cells sums))
    (is_balanced _
    (begin (codes "tr") (inside (begin (codes "th") (attribute (codes "scope")
    (value (plainly (codes "row") refl) (quoted (inside (saying (says year) (closed (codes "th")
    (more (number_cell (decimal sums.priced_lots)) (count_balanced sums.priced_lots)
    (more (money_cell sums.proceeds) (money_balanced sums.proceeds)
    (more (money_cell sums.cost) (money_balanced sums.cost)
    (more (money_gain_cell sums.gain) (money_gain_balanced sums.gain) (closed (codes "tr")
    (saying (plainly (codes "\n") refl) done))))))))))))))))

year_unpriced : (year : List ℕ) (sums : RowSums) → IsBalanced (year_front year ++ unpriced_sums sums)
year_unpriced year sums =
    subst IsBalanced (year_apart year (unpriced_sums sums))
    (is_balanced _
    (begin (codes "tr") (inside (begin (codes "th") (attribute (codes "scope")
    (value (plainly (codes "row") refl) (quoted (inside (saying (says year) (closed (codes "th")
    (more (number_cell (decimal sums.unpriced_lots)) (count_balanced sums.unpriced_lots) (begin (codes "td")
    (attribute (codes "class") (value (plainly (codes "n") refl) (quoted (inside (closed (codes "td")
    (more (money_cell sums.unpriced_cost) (money_balanced sums.unpriced_cost) (begin (codes "td")
    (attribute (codes "class") (value (plainly (codes "n") refl) (quoted (inside
    (saying (plainly (codes "unpriced") refl) (closed (codes "td") (closed (codes "tr")
    (saying (plainly (codes "\n") refl) done)))))))))))))))))))))))))))

pub year_balanced : (year : List ℕ) (sums : RowSums) → IsBalanced (year_html year sums)
year_balanced year sums =
    balanced_behind _ _ (unless sums.priced_lots _ (year_priced year sums)) (unless sums.unpriced_lots _ (year_unpriced year sums))

commodity_priced : (commodity currency : List ℕ) (sums : RowSums) → IsBalanced (commodity_front commodity currency ++ priced_cells sums)
commodity_priced commodity currency sums =
    subst IsBalanced (commodity_apart commodity currency (priced_cells sums))
    (is_balanced _
    (begin (codes "tr") (inside (begin (codes "th") (attribute (codes "scope")
    (value (plainly (codes "row") refl) (quoted (inside
    (more (element_text (codes "bdi") [] commodity) (element_is_balanced (codes "bdi") [] commodity)
    (closed (codes "th") (more (name_cell currency) (name_balanced currency)
    (more (number_cell (decimal sums.priced_lots)) (count_balanced sums.priced_lots)
    (more (money_cell sums.proceeds) (money_balanced sums.proceeds)
    (more (money_cell sums.cost) (money_balanced sums.cost)
    (more (money_gain_cell sums.gain) (money_gain_balanced sums.gain) (closed (codes "tr")
    (saying (plainly (codes "\n") refl) done)))))))))))))))))

commodity_unpriced : (commodity currency : List ℕ) (sums : RowSums) → IsBalanced (commodity_front commodity currency ++ unpriced_sums sums)
commodity_unpriced commodity currency sums =
    subst IsBalanced (commodity_apart commodity currency (unpriced_sums sums))
    (is_balanced _
    (begin (codes "tr") (inside (begin (codes "th") (attribute (codes "scope")
    (value (plainly (codes "row") refl) (quoted (inside
    (more (element_text (codes "bdi") [] commodity) (element_is_balanced (codes "bdi") [] commodity)
    (closed (codes "th") (more (name_cell currency) (name_balanced currency)
    (more (number_cell (decimal sums.unpriced_lots)) (count_balanced sums.unpriced_lots) (begin (codes "td")
    (attribute (codes "class") (value (plainly (codes "n") refl) (quoted (inside (closed (codes "td")
    (more (money_cell sums.unpriced_cost) (money_balanced sums.unpriced_cost) (begin (codes "td")
    (attribute (codes "class") (value (plainly (codes "n") refl) (quoted (inside
    (saying (plainly (codes "unpriced") refl) (closed (codes "td") (closed (codes "tr")
    (saying (plainly (codes "\n") refl) done))))))))))))))))))))))))))))

pub commodity_balanced : (commodity currency : List ℕ) (sums : RowSums) → IsBalanced (commodity_html commodity currency sums)
commodity_balanced commodity currency sums =
    balanced_behind _ _ (unless sums.priced_lots _ (commodity_priced commodity currency sums))
    (unless sums.unpriced_lots _ (commodity_unpriced commodity currency sums))

pub gain_total_balanced : (currency : List ℕ) (total : ℤ) → IsBalanced (gain_total_html currency total)
gain_total_balanced currency total =
    (is_balanced _
    (begin (codes "tr") (inside (begin (codes "th") (attribute (codes "scope")
    (value (plainly (codes "row") refl) (quoted (inside (saying (plainly (codes "Total") refl)
    (closed (codes "th") (more (name_cell currency) (name_balanced currency) (begin (codes "td") (inside
    (closed (codes "td") (begin (codes "td") (inside (closed (codes "td") (begin (codes "td") (inside
    (closed (codes "td") (more (money_gain_cell total) (money_gain_balanced total) (closed (codes "tr")
    (saying (plainly (codes "\n") refl) done)))))))))))))))))))))))

-- ---- holdings

pub account_balanced : (account : List ℕ) → IsBalanced (account_html account)
account_balanced account =
    (is_balanced _
    (begin (codes "tr") (attribute (codes "class") (value (plainly (codes "by") refl) (quoted (inside
    (begin (codes "th") (attribute (codes "colspan") (value (plainly (codes "11") refl) (quoted
    (attribute (codes "scope") (value (plainly (codes "rowgroup") refl) (quoted (inside
    (more (element_text (codes "bdi") [] account) (element_is_balanced (codes "bdi") [] account)
    (closed (codes "th") (closed (codes "tr") (saying (plainly (codes "\n") refl) done))))))))))))))))))

unvalued : (lot : LotKey) → IsBalanced (unvalued_cells lot)
unvalued lot =
    (is_balanced _
    (begin (codes "td") (attribute (codes "class") (value (plainly (codes "n") refl) (quoted
    (attribute (codes "colspan") (value (plainly (codes "3") refl) (quoted (inside
    (saying (plainly (codes "no price") refl) (closed (codes "td")
    (more (name_cell lot.currency) (name_balanced lot.currency) (begin (codes "td") (inside
    (closed (codes "td") done)))))))))))))))

valued_lot : (lot : LotKey) (units : ℤ) (price : ℕ) (totals : LotTotals) → IsBalanced (valued_cells lot units price totals)
valued_lot lot units price totals =
    (is_balanced _
    (more (number_cell (amount_text 0 8 (pos price))) (amount_balanced (pos price))
    (more (money_cell (value_at units price)) (money_balanced (value_at units price))
    (more (money_gain_cell (value_at units price -ℤ value_at units lot.number)) (money_gain_balanced (value_at units price -ℤ value_at units lot.number))
    (more (name_cell lot.currency) (name_balanced lot.currency)
    (more (share_cell (share_of (value_at units price) totals)) (share_balanced (share_of (value_at units price) totals)) done))))))

value_of : (lot : LotKey) (units : ℤ) (valuation : Valuation) (totals : LotTotals) → IsBalanced (value_cells lot units valuation totals)
value_of lot units (At price) totals = valued_lot lot units price totals
value_of lot units Missing totals = unvalued lot
value_of lot units Unasked totals = unvalued lot

lot_balanced : (lot : LotKey) (units : ℤ) (valuation : Valuation) (totals : LotTotals) → IsBalanced (lot_cells lot units valuation totals)
lot_balanced lot units valuation totals =
    (is_balanced _
    (more (number_cell (amount_text 0 8 units)) (amount_balanced units)
    (more (plain_cell (day_text lot.day)) (plain_balanced (day_text lot.day))
    (more (optional_name lot.label) (optional_balanced lot.label)
    (more (number_cell (amount_text 0 8 (pos lot.number))) (amount_balanced (pos lot.number))
    (more (money_cell (value_at units lot.number)) (money_balanced (value_at units lot.number))
    (more (value_cells lot units valuation totals) (value_of lot units valuation totals) done)))))))

position_balanced : (lot : Option LotKey) (units : ℤ) (valuation : Valuation) (totals : LotTotals)
    → IsBalanced (position_cells lot units valuation totals)
position_balanced None units valuation totals =
    (is_balanced _
    (more (number_cell (amount_text 2 8 units)) (number_balanced (amount_text 2 8 units) (amount_plain 2 8 units))
    (begin (codes "td") (attribute (codes "colspan") (value (plainly (codes "9") refl) (quoted (inside
    (closed (codes "td") done))))))))
position_balanced (Some lot) units valuation totals = lot_balanced lot units valuation totals

pub holding_balanced : (row : ValuedHolding) (totals : LotTotals) → IsBalanced (holding_html row totals)
holding_balanced row totals =
    (is_balanced _
    (begin (codes "tr") (inside (more (name_cell row.holding.commodity) (name_balanced row.holding.commodity)
    (more (position_cells row.holding.lot row.holding.units row.valuation totals) (position_balanced row.holding.lot row.holding.units row.valuation totals)
    (closed (codes "tr") (saying (plainly (codes "\n") refl) done)))))))

total_cells_balanced : (valued : Option Valued) → IsBalanced (total_cells valued)
total_cells_balanced None = balanced_behind _ _ (element_is_balanced (codes "td") [] []) (element_is_balanced (codes "td") [] [])
total_cells_balanced (Some valued) =
    (is_balanced _
    (more (money_cell valued.value) (money_balanced valued.value)
    (more (money_gain_cell valued.gain) (money_gain_balanced valued.gain) done)))

pub lot_total_balanced : (currency : List ℕ) (totals : LotTotals) → IsBalanced (lot_total_html currency totals)
lot_total_balanced currency totals =
    (is_balanced _
    (begin (codes "tr") (inside (begin (codes "th") (attribute (codes "colspan")
    (value (plainly (codes "5") refl) (quoted (attribute (codes "scope") (value (plainly (codes "row") refl)
    (quoted (inside (saying (plainly (codes "Total") refl) (closed (codes "th")
    (more (money_cell totals.cost) (money_balanced totals.cost) (begin (codes "td") (inside
    (closed (codes "td") (more (total_cells totals.valued) (total_cells_balanced totals.valued)
    (more (name_cell currency) (name_balanced currency) (begin (codes "td") (inside (closed (codes "td")
    (closed (codes "tr") (saying (plainly (codes "\n") refl) done))))))))))))))))))))))))

-- ---- months

point_balanced : (worth : Option ℤ) (cost : ℤ) → IsBalanced (point_cells worth cost)
point_balanced None cost =
    (is_balanced _
    (begin (codes "td") (attribute (codes "class") (value (plainly (codes "n") refl) (quoted (inside
    (saying (plainly (codes "no price") refl) (closed (codes "td")
    (more (money_cell cost) (money_balanced cost) (begin (codes "td") (attribute (codes "class")
    (value (plainly (codes "n") refl) (quoted (inside (closed (codes "td") done)))))))))))))))
point_balanced (Some worth) cost =
    (is_balanced _
    (more (money_cell worth) (money_balanced worth) (more (money_cell cost) (money_balanced cost)
    (more (gain_over_cell worth cost) (gain_over_balanced worth cost) done))))

pub month_balanced : (at : Month) (point : MonthPoint) → IsBalanced (month_html at point)
month_balanced at point =
    (is_balanced _
    (begin (codes "tr") (inside (begin (codes "th") (attribute (codes "scope")
    (value (plainly (codes "row") refl) (quoted (inside (saying (month at.0) (closed (codes "th")
    (more (point_cells point.worth point.cost) (point_balanced point.worth point.cost) (closed (codes "tr")
    (saying (plainly (codes "\n") refl) done)))))))))))))

-- ---- sales

taken_balanced : (sold : ℤ) (leg : LotKey × ℤ) → IsBalanced (taken_cells sold leg)
taken_balanced sold leg =
    (is_balanced _
    (more (number_cell (amount_text 0 8 leg.1)) (amount_balanced leg.1)
    (more (plain_cell (day_text leg.0.day)) (plain_balanced (day_text leg.0.day))
    (more (number_cell (signed_decimal (sold -ℤ leg.0.day))) (number_balanced (signed_decimal (sold -ℤ leg.0.day)) (signed_plain (sold -ℤ leg.0.day)))
    (more (plain_cell (term_text (term_of leg.0.day sold))) (plain_balanced (term_text (term_of leg.0.day sold)))
    (more (optional_name leg.0.label) (optional_balanced leg.0.label)
    (more (number_cell (amount_text 0 8 (pos leg.0.number))) (amount_balanced (pos leg.0.number)) done)))))))

result_balanced : (leg : LotKey × ℤ) (gain : Option Gain) → IsBalanced (result_cells leg gain)
result_balanced leg None =
    (is_balanced _
    (begin (codes "td") (attribute (codes "class") (value (plainly (codes "n") refl) (quoted (inside
    (closed (codes "td") (more (money_cell (lot_cost leg)) (money_balanced (lot_cost leg))
    (begin (codes "td") (attribute (codes "class") (value (plainly (codes "n") refl) (quoted (inside
    (saying (plainly (codes "unpriced") refl) (closed (codes "td") done)))))))))))))))
result_balanced leg (Some gain) =
    (is_balanced _
    (more (money_cell gain.proceeds) (money_balanced gain.proceeds)
    (more (money_cell (lot_cost leg)) (money_balanced (lot_cost leg))
    (more (money_gain_cell gain.gain) (money_gain_balanced gain.gain) done))))

sold_apart : (target day rest : List ℕ)
    → codes "<tr><td><a href=\"#" ++ (target ++ (codes "\">" ++ (day ++ (codes "</a></td>" ++ rest))))
    ≡ (codes "<tr><td><a href=\"#" ++ (target ++ (codes "\">" ++ (day ++ codes "</a></td>")))) ++ rest
sold_apart target day rest =
    ap (λ (t : List ℕ). codes "<tr><td><a href=\"#" ++ t)
    (ap (λ (t : List ℕ). target ++ (codes "\">" ++ t)) (sym (append_assoc day (codes "</a></td>") rest))
    ∙ sym (append_assoc target (codes "\">" ++ (day ++ codes "</a></td>")) rest))

lot_balanced_in : (target : List ℕ) (sale : SaleParts) (lot : (LotKey × ℤ) × Option Gain) → IsBalanced (lot_html target sale lot)
lot_balanced_in target sale lot =
    subst IsBalanced (sold_apart (escaped target) (escaped (day_text sale.day)) _)
    (is_balanced _
    (begin (codes "tr") (inside (begin (codes "td") (inside (begin (codes "a") (attribute (codes "href")
    (value (plainly (codes "#") refl) (value (says target) (quoted (inside (saying (says (day_text sale.day))
    (closed (codes "a") (closed (codes "td") (more (name_cell sale.account) (name_balanced sale.account)
    (more (name_cell sale.commodity) (name_balanced sale.commodity)
    (more (taken_cells sale.day lot.0) (taken_balanced sale.day lot.0)
    (more (result_cells lot.0 lot.1) (result_balanced lot.0 lot.1)
    (more (name_cell lot.0.0.currency) (name_balanced lot.0.0.currency) (closed (codes "tr")
    (saying (plainly (codes "\n") refl) done)))))))))))))))))))))

pub sale_balanced : (target : List ℕ) (sale : SaleParts) → IsBalanced (sale_html target sale)
sale_balanced target sale =
    (is_balanced _
    (begin (codes "tbody") (inside (saying (plainly (codes "\n") refl)
    (more (flat_map (λ (lot : SoldLot). lot_html target sale (lot.0, gain_in sale.units lot)) (lots_of sale)) (each_is_balanced (λ (lot : SoldLot). lot_html target sale (lot.0, gain_in sale.units lot)) (lots_of sale) (λ lot. lot_balanced_in target sale (lot.0, gain_in sale.units lot)))
    (closed (codes "tbody") (saying (plainly (codes "\n") refl) done)))))))

-- ---- entries

-- what is open where a byte stands
open_at : Place → List (List ℕ)
open_at outside = []
open_at within = codes "bdi" ∷ []
open_at behind = codes "bdi" ∷ []

-- by whether a byte is a quote, and whether it is a backslash
outside_step : (byte : ℕ) (bytes : List ℕ) (quote : Bool) → Closing (open_at within) (command_html within bytes)
    → Closing (open_at outside) (command_html outside bytes)
    → Closing (open_at outside) (cond quote (codes "&quot;<bdi>") (escaped (byte ∷ [])) ++ command_html (cond quote within outside) bytes)
unfolding open_at
outside_step byte bytes true inner outer = saying (says (34 ∷ [])) (begin (codes "bdi") (inside inner))
outside_step byte bytes false inner outer = saying (says (byte ∷ [])) outer

within_step : (byte : ℕ) (bytes : List ℕ) (quote backslash : Bool) → Closing (open_at outside) (command_html outside bytes)
    → Closing (open_at behind) (command_html behind bytes) → Closing (open_at within) (command_html within bytes)
    → Closing (open_at within)
    (cond quote (codes "</bdi>&quot;") (escaped (byte ∷ [])) ++ command_html (cond quote outside (cond backslash behind within)) bytes)
unfolding open_at
within_step byte bytes true backslash outer next inner = closed (codes "bdi") (saying (says (34 ∷ [])) outer)
within_step byte bytes false true outer next inner = saying (says (byte ∷ [])) next
within_step byte bytes false false outer next inner = saying (says (byte ∷ [])) inner

command_closes : (place : Place) (bytes : List ℕ) → Closing (open_at place) (command_html place bytes)
unfolding open_at
command_closes outside [] = done
command_closes within [] = closed (codes "bdi") done
command_closes behind [] = closed (codes "bdi") done
command_closes outside (byte ∷ bytes) = outside_step byte bytes (byte == 34) (command_closes within bytes) (command_closes outside bytes)
command_closes within (byte ∷ bytes) =
    within_step byte bytes (byte == 34) (byte == 92) (command_closes outside bytes) (command_closes behind bytes) (command_closes within bytes)
command_closes behind (byte ∷ bytes) = saying (says (byte ∷ [])) (command_closes within bytes)

pub command_balanced : (bytes : List ℕ) → IsBalanced (command_html outside bytes)
unfolding open_at
command_balanced bytes = is_balanced _ (command_closes outside bytes)

pub entry_balanced : (entry : Entry) → IsBalanced (entry_html entry)
entry_balanced entry =
    (is_balanced _
    (begin (codes "i") (inside (saying (plainly (codes "; entry ") refl) (saying (number entry.number)
    (saying (plainly (codes " key ") refl) (saying (says entry.key.source) (saying (plainly (codes " ") refl)
    (more (element_text (codes "bdi") [] entry.key.name) (element_is_balanced (codes "bdi") [] entry.key.name)
    (closed (codes "i") (saying (plainly (codes "\n") refl)
    (more (command_html outside (string_bytes entry.body)) (command_balanced (string_bytes entry.body)) done))))))))))))
