-- The parts of a page of a book, one behind the other (docs/FORMATS.md, Page).
use Rattle.std.specs.Prelude.{◌≡◌, ◌==◌, ◌&&◌, ℕ, ◌+◌, ◌-◌, ◌*◌, min, Bool, false, true, not, nat_lt, if◌then◌else◌, List, [], ◌∷◌, ◌++◌, count_by, filter, flat_map, map, Option, None, Some, codes, decimal}
use Rattle.std.specs.List.{list_any}
use Rattle.std.specs.Map.{lookup}
use Rattle.std.specs.Option.{unwrap_or}
use Rattle.std.specs.Ordering.{is_eq, nat_cmp}
use Rattle.lot_base.specs.Text.{same_text, text_cmp}
use Rattle.lot_cells.specs.Entry.{command_html, outside}
use Rattle.lot_cells.specs.Gains.{commodity_html, gain_total_html, year_html}
use Rattle.lot_cells.specs.Holdings.{account_html, holding_html, lot_total_html}
use Rattle.lot_cells.specs.Months.{month_html}
use Rattle.lot_cells.specs.Sales.{sale_html}
use Rattle.lot_cells.specs.declared.holdings.LotTotals.{LotTotals}
use Rattle.lot_cells.specs.declared.holdings.Valued.{Valued}
use Rattle.lot_cost.specs.declared.lot_key.LotKey.{LotKey}
use Rattle.lot_html.specs.Text.{escaped}
use Rattle.lot_months.specs.Range.{months_before, most_months}
use Rattle.lot_months.specs.declared.range.MonthRange.{MonthRange}
use Rattle.lot_plot.specs.Bars.{IsBarsPlot}
use Rattle.lot_plot.specs.Lines.{IsLinesPlot}
use Rattle.lot_plot.specs.Month.{last_month as last_month_of_all, month_text}
use Rattle.lot_plot.specs.Plot.{all_of}
use Rattle.lot_plot.specs.declared.bars.YearBar.{YearBar}
use Rattle.lot_plot.specs.declared.lines.MonthPoint.{MonthPoint}
use Rattle.lot_plot.specs.declared.month.Month.{Month}
use Rattle.lot_report.specs.declared.holdings.ValuedHolding.{ValuedHolding}
use Rattle.lot_report.specs.declared.lot.Valuation.{Valuation}
use Rattle.lot_report.specs.declared.lot.Valuation.TheVariants.{At, Missing, Unasked}
use Rattle.lot_rows.specs.declared.entry.EntryRow.{EntryRow}
use Rattle.lot_tally.specs.Lots.{RowKey}
use Rattle.lot_tally.specs.declared.sums.RowSums.{RowSums}
use Rattle.lot_walk.specs.Gains.{Range, is_within}
use Rattle.lot_walk.specs.declared.gains.NumberedSale.{NumberedSale}
use Rattle.lot_page_report.specs.Parts.{PageOf, Parts, day_of_row, days_of, no_lots, rows_within}
use Rattle.lot_page_report.specs.Text.{commodities_head, count_html, front_html, header_html, held_head, months_head, name_html, no_sales, part_end, part_front, rounding_note, sales_head, shares_note, when_html, years_head}

-- the text of the one key of a row, without the comma behind it
abbrev pub key_of : List ℕ → List ℕ
key_of [] = []
key_of (byte ∷ []) = if byte == 44 then [] else byte ∷ []
key_of (byte ∷ next ∷ rest) = byte ∷ key_of (next ∷ rest)

abbrev pub Row : Type 0
Row = RowKey × RowSums

-- ---- gains by year

abbrev pub is_in : List ℕ → Row → Bool
is_in currency row = same_text currency row.0.1

-- the number that the digits of a year say, which is one of 16 bits
abbrev pub number_with : ℕ → ℕ → ℕ
number_with number digit = min (10 * number + (digit - 48)) 65535

abbrev pub number_of : ℕ → List ℕ → ℕ
number_of number [] = number
number_of number (digit ∷ digits) = number_of (number_with number digit) digits

-- a bar for each year in which some lot has a gain
abbrev pub has_bar : List ℕ → Row → Bool
has_bar currency row = is_in currency row && nat_lt 0 row.1.priced_lots

abbrev pub bar_of : Row → YearBar
bar_of row = record { year = number_of 0 (key_of row.0.0); gain = row.1.gain }

abbrev pub bars_of : List ℕ → List Row → List YearBar
bars_of currency rows = map bar_of (filter (has_bar currency) rows)

-- the plot with its caption, where there are bars
abbrev pub some_figure_html : List ℕ → List ℕ → List ℕ
some_figure_html currency plot =
    all_of
    (codes "<figure>\n<figcaption>Gains in " ∷ name_html currency ∷ codes " by year</figcaption>\n" ∷ plot ∷ codes "</figure>\n" ∷ [])

abbrev pub figure_html : List ℕ → List ℕ → List YearBar → List ℕ
figure_html currency plot [] = []
figure_html currency plot (bar ∷ bars) = some_figure_html currency plot

-- the rows of a year, where it is one of the currency
abbrev pub year_row : List ℕ → Row → List ℕ
year_row currency row = if is_in currency row then year_html (key_of row.0.0) row.1 else []

-- the plot and the table of a currency
abbrev pub IsCurrencyYears : List ℕ → List Row → List ℕ → Type 0
IsCurrencyYears currency rows text =
    (plot : List ℕ) × IsBarsPlot currency (bars_of currency rows) plot
    × (text ≡ all_of
    (codes "<div class=\"pair\">\n" ∷ figure_html currency plot (bars_of currency rows)
    ∷ codes "<div class=\"wide\" role=\"region\" tabindex=\"0\" aria-label=\"Sales in " ∷ escaped currency
    ∷ codes " by year\">\n<table>\n<caption>Sales in " ∷ name_html currency ∷ years_head
    ∷ flat_map (year_row currency) rows ∷ codes "</tbody>\n</table>\n</div>\n</div>\n" ∷ []))

-- those of each currency in which something was sold
abbrev pub AreCurrencyYears : List Row → List Row → List ℕ → Type 0
AreCurrencyYears rows [] text = text ≡ []
AreCurrencyYears rows (currency ∷ currencies) text =
    (first : List ℕ) × IsCurrencyYears currency.0.1 rows first
    × (rest : List ℕ) × AreCurrencyYears rows currencies rest × (text ≡ first ++ rest)

-- where nothing was sold, that is said
abbrev pub unless_some : {X : Type 0} → List X → List ℕ → List ℕ
unless_some [] text = text
unless_some (x ∷ xs) text = []

abbrev pub IsYears : List Row → List Row → List ℕ → Type 0
IsYears rows currencies text =
    (inner : List ℕ) × AreCurrencyYears rows currencies inner
    × (text ≡ all_of (part_front (codes "years") (codes "Gains by year") ∷ unless_some currencies no_sales ∷ inner ∷ part_end ∷ []))

-- ---- gains by commodity

-- a foot of a table, where it has rows
abbrev pub some_foot_html : List ℕ → List ℕ
some_foot_html rows = all_of (codes "<tfoot>\n" ∷ rows ∷ codes "</tfoot>\n" ∷ [])

abbrev pub foot_html : List ℕ → List ℕ
foot_html [] = []
foot_html (byte ∷ rows) = some_foot_html (byte ∷ rows)

abbrev pub commodity_row : Row → List ℕ
commodity_row row = commodity_html (key_of row.0.0) row.0.1 row.1

-- what all sales gained in a currency, where some have a gain
abbrev pub total_in : List ℕ → RowSums → List ℕ
total_in currency sums = if nat_lt 0 sums.priced_lots then gain_total_html currency sums.gain else []

abbrev pub total_row : Row → List ℕ
total_row row = total_in row.0.1 row.1

abbrev pub commodities_table : List Row → List Row → List ℕ
commodities_table rows currencies =
    all_of
    (commodities_head ∷ flat_map commodity_row rows ∷ codes "</tbody>\n" ∷ foot_html (flat_map total_row currencies)
    ∷ codes "</table>\n</div>\n" ∷ [])

abbrev pub commodities_inner : List Row → List Row → List ℕ
commodities_inner [] currencies = no_sales
commodities_inner (row ∷ rows) currencies = commodities_table (row ∷ rows) currencies

abbrev pub commodities_html : List Row → List Row → List ℕ
commodities_html rows currencies =
    all_of (part_front (codes "commodities") (codes "Gains by commodity") ∷ commodities_inner rows currencies ∷ part_end ∷ [])

-- ---- holdings

-- the totals of the currency of a lot
abbrev pub totals_of : List (List ℕ × LotTotals) → Option LotKey → LotTotals
totals_of totals None = no_lots
totals_of totals (Some lot) = unwrap_or (lookup (λ other. is_eq (text_cmp lot.currency other)) totals) no_lots

abbrev pub row_html : List (List ℕ × LotTotals) → ValuedHolding → List ℕ
row_html totals row = holding_html row (totals_of totals row.holding.lot)

-- where a row is of another account than the one before, the name of its account stands above
abbrev pub account_front : Option (List ℕ) → List ℕ → List ℕ
account_front None account = codes "<tbody>\n" ++ account_html account
account_front (Some before) account = if same_text before account then [] else codes "</tbody>\n<tbody>\n" ++ account_html account

abbrev pub rows_behind : List (List ℕ × LotTotals) → Option (List ℕ) → List ValuedHolding → List ℕ
rows_behind totals account [] = []
rows_behind totals account (row ∷ rows) =
    account_front account row.holding.account ++ (row_html totals row ++ rows_behind totals (Some row.holding.account) rows)

abbrev pub lot_total : List ℕ × LotTotals → List ℕ
lot_total total = lot_total_html total.0 total.1

abbrev pub is_unpriced : Valuation → Bool
is_unpriced (At price) = false
is_unpriced Missing = true
is_unpriced Unasked = false

abbrev pub unpriced_in : List ValuedHolding → ℕ
unpriced_in held = count_by (λ (row : ValuedHolding). is_unpriced row.valuation) held

abbrev pub unpriced_note : ℕ → List ℕ
unpriced_note count =
    if count == 0 then []
    else all_of (codes "<p class=\"note\">Lots without a price: " ∷ count_html count ∷ codes ". They count in the total cost, not in the total value and gain.</p>\n" ∷ [])

abbrev pub has_value : Option Valued → Bool
has_value None = false
has_value (Some valued) = true

abbrev pub has_values : List (List ℕ × LotTotals) → Bool
has_values totals = list_any (λ (total : List ℕ × LotTotals). has_value total.1.valued) totals

abbrev pub shares_if_any : List (List ℕ × LotTotals) → List ℕ
shares_if_any totals = if has_values totals then shares_note else []

abbrev pub held_table : List ValuedHolding → List (List ℕ × LotTotals) → List ℕ
held_table rows totals =
    all_of
    (held_head ∷ rows_behind totals None rows ∷ codes "</tbody>\n" ∷ foot_html (flat_map lot_total totals)
    ∷ codes "</table>\n</div>\n" ∷ unpriced_note (unpriced_in rows) ∷ shares_if_any totals ∷ [])

abbrev pub held_inner : List ValuedHolding → List (List ℕ × LotTotals) → List ℕ
held_inner [] totals = codes "<p>Nothing held</p>\n"
held_inner (row ∷ rows) totals = held_table (row ∷ rows) totals

abbrev pub held_html : PageOf → List ValuedHolding → List (List ℕ × LotTotals) → List ℕ
held_html page held totals =
    all_of (part_front (codes "holdings") (codes "Holdings") ∷ when_html page ∷ held_inner held totals ∷ part_end ∷ [])

-- ---- months

-- the month behind one, but for the last that can be counted
abbrev pub next_month : ℕ → ℕ
next_month number = min (number + 1) last_month_of_all

-- the rows of months, from one on
abbrev pub AreMonthRows : ℕ → List MonthPoint → List ℕ → Type 0
AreMonthRows number [] text = text ≡ []
AreMonthRows number (point ∷ points) text =
    (month : Month) × (month.0 ≡ number) × (rest : List ℕ) × AreMonthRows (next_month number) points rest
    × (text ≡ month_html month point ++ rest)

abbrev pub IsCurrencyMonths : ℕ → List ℕ → List MonthPoint → List ℕ → Type 0
IsCurrencyMonths first currency points text =
    (plot : List ℕ) × IsLinesPlot currency first points plot × (rows : List ℕ) × AreMonthRows first points rows
    × (text ≡ all_of
    (codes "<figure>\n<figcaption>Worth and cost of lots in " ∷ name_html currency
    ∷ codes " at the end of each month<span class=\"key\">worth</span><span class=\"key\">cost</span></figcaption>\n" ∷ plot
    ∷ codes "<details>\n<summary>The numbers</summary>\n<div class=\"wide\" role=\"region\" tabindex=\"0\" aria-label=\"Worth and cost of lots in "
    ∷ escaped currency ∷ codes "\">\n<table>\n<caption>Worth and cost of lots in " ∷ name_html currency ∷ months_head ∷ rows
    ∷ codes "</tbody>\n</table>\n</div>\n</details>\n</figure>\n" ∷ []))

abbrev pub AreCurrencyMonths : ℕ → List (List ℕ × List MonthPoint) → List ℕ → Type 0
AreCurrencyMonths first [] text = text ≡ []
AreCurrencyMonths first (months ∷ rest) text =
    (one : List ℕ) × IsCurrencyMonths first months.0 months.1 one
    × (others : List ℕ) × AreCurrencyMonths first rest others × (text ≡ one ++ others)

-- what is said where there are more months than are looked at
abbrev pub bound_note : ℕ → List ℕ
bound_note whole =
    if nat_lt most_months whole
    then all_of (codes "<p class=\"note\">The last " ∷ decimal most_months ∷ codes " of " ∷ count_html whole ∷ codes " months</p>\n" ∷ [])
    else []

abbrev pub no_lots_note : List ℕ
no_lots_note = codes "<p>No lots</p>\n"

abbrev pub IsMonthsInner : Option MonthRange → List (List ℕ × List MonthPoint) → List ℕ → Type 0
IsMonthsInner None months text = text ≡ no_lots_note
IsMonthsInner (Some range) [] text = text ≡ no_lots_note
IsMonthsInner (Some range) (one ∷ months) text =
    (inner : List ℕ) × AreCurrencyMonths range.first.0 (one ∷ months) inner
    × (text ≡ all_of (bound_note range.whole ∷ inner ∷ rounding_note ∷ []))

abbrev pub IsMonths : Option MonthRange → List (List ℕ × List MonthPoint) → List ℕ → Type 0
IsMonths range months text =
    (inner : List ℕ) × IsMonthsInner range months inner
    × (text ≡ all_of (part_front (codes "months") (codes "Worth by month") ∷ inner ∷ part_end ∷ []))

-- ---- lists, row by row

-- what rows show behind others, where that goes by those before
abbrev pub pieces_behind : {Row : Type 0} → (List Row → Row → List ℕ) → List Row → List Row → List ℕ
pieces_behind piece before [] = []
pieces_behind piece before (row ∷ rows) = piece before row ++ pieces_behind piece (before ++ row ∷ []) rows

-- ---- sales

-- by what a month of the journal is linked to
abbrev pub target_of : ℕ → List ℕ
target_of month = codes "m" ++ month_text month

-- the rows of a sale are linked to the month of its entry
abbrev pub sale_row : NumberedSale → List ℕ
sale_row sold = sale_html (target_of (months_before sold.sale.day)) sold.sale

-- the head of the table stands before the first row
abbrev pub sale_front : Bool → List ℕ
sale_front true = []
sale_front false = sales_head

abbrev pub is_some_sale : List NumberedSale → Bool
is_some_sale [] = false
is_some_sale (first ∷ before) = true

abbrev pub sale_piece : List NumberedSale → NumberedSale → List ℕ
sale_piece before sold = sale_front (is_some_sale before) ++ sale_row sold

abbrev pub sales_end : List NumberedSale → List ℕ
sales_end [] = no_sales ++ part_end
sales_end (first ∷ sales) = codes "</table>\n</div>\n" ++ part_end

abbrev pub sales_html : List NumberedSale → List ℕ
sales_html sales = pieces_behind sale_piece [] sales ++ sales_end sales

-- ---- the journal

-- an entry, as the journal lists it
abbrev pub entry_row_html : EntryRow → List ℕ
entry_row_html row =
    all_of
    (codes "<i>; entry " ∷ decimal row.number ∷ codes " key " ∷ escaped row.source ∷ codes " " ∷ name_html row.name ∷ codes "</i>\n"
    ∷ command_html outside row.body ∷ [])

abbrev pub month_in : EntryRow → ℕ
month_in row = months_before (day_of_row row)

-- the month of the last of rows
abbrev pub last_month : List EntryRow → Option ℕ
last_month [] = None
last_month (row ∷ []) = Some (month_in row)
last_month (row ∷ next ∷ rows) = last_month (next ∷ rows)

abbrev pub is_month : ℕ → Option ℕ → Bool
is_month month None = false
is_month month (Some last) = last == month

abbrev pub has_month : ℕ → List EntryRow → Bool
has_month month rows = list_any (λ (row : EntryRow). is_eq (nat_cmp (month_in row) month)) rows

-- the fold before ends, if there is one, and the next one begins, with the target of its month where it is the first of it
abbrev pub fold_end : Option ℕ → List ℕ
fold_end None = []
fold_end (Some last) = codes "</pre>\n</details>\n"

abbrev pub summary_html : Bool → ℕ → List ℕ
summary_html false month = all_of (codes "<summary>" ∷ month_text month ∷ codes "</summary>\n<pre>" ∷ [])
summary_html true month =
    all_of (codes "<summary id=\"" ∷ target_of month ∷ codes "\">" ∷ month_text month ∷ codes "</summary>\n<pre>" ∷ [])

-- where the last month is another one; a month may have a fold already
abbrev pub fold_with : Option ℕ → Bool → ℕ → List ℕ
fold_with last has_fold month =
    if is_month month last then [] else all_of (fold_end last ∷ codes "<details>\n" ∷ summary_html (not has_fold) month ∷ [])

abbrev pub fold_front : List EntryRow → ℕ → List ℕ
fold_front before month = fold_with (last_month before) (has_month month before) month

-- an entry of the range, behind those before; neighbours of one month are in one fold
abbrev pub entry_piece : Range → List EntryRow → EntryRow → List ℕ
entry_piece range before row =
    if is_within range (day_of_row row)
    then fold_front (rows_within range before) (month_in row) ++ entry_row_html row
    else []

abbrev pub entries_end : Option ℕ → List ℕ
entries_end None = codes "<p>No entries</p>\n"
entries_end (Some last) = codes "</pre>\n</details>\n"

abbrev pub journal_end : Range → List EntryRow → List ℕ
journal_end range rows = all_of (entries_end (last_month (rows_within range rows)) ∷ part_end ∷ codes "</main>\n</body>\n</html>\n" ∷ [])

abbrev pub journal_html : Range → List EntryRow → List ℕ
journal_html range rows = pieces_behind (entry_piece range) [] rows ++ journal_end range rows

-- ---- the page

-- what stands before the sales
pub record IsTop (page : PageOf) (parts : Parts) (text : List ℕ) : Type 0 where
  pub years : List ℕ
  pub are_years : IsYears parts.years parts.currencies years
  pub months : List ℕ
  pub are_months : IsMonths parts.range parts.months months
  pub whole : text ≡ all_of
      (front_html page.name ∷ codes "<body>\n" ∷ header_html page parts ∷ codes "<main>\n" ∷ years
      ∷ commodities_html parts.commodities parts.currencies ∷ held_html page parts.held parts.totals ∷ months
      ∷ part_front (codes "sales") (codes "Sales") ∷ [])

-- the text of a page with these parts, behind its first line
pub record IsTextOf (page : PageOf) (parts : Parts) (text : List ℕ) : Type 0 where
  pub top : List ℕ
  pub is_top : IsTop page parts top
  pub whole : text ≡ all_of
      (top ∷ sales_html parts.sales ∷ part_front (codes "journal") (codes "Journal") ∷ journal_html (days_of page) parts.listed ∷ [])
