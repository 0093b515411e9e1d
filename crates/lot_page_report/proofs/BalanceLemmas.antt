-- A page is balanced: each of its parts is, and what they stand in is closed at its end.
use Rattle.std.specs.Prelude.{◌==◌, nat_lt, codes, decimal}
use Rattle.std.specs.List.{flat_map}
use Rattle.std.proofs.Common.{◌≡◌, ℕ, ℤ, Bool, true, false, not, List, [], ◌∷◌, ◌++◌, Option, None, Some, ap, refl, sym, subst, ◌∙◌, append-nil, append_assoc, inl, inr}
use Rattle.std.proofs.lemmas.Bool.{cases_Bool}
use Rattle.std.proofs.lemmas.List.Elements.{filter-append}
use Rattle.base64.specs.Engines.{standard}
use Rattle.base64.specs.GeneralPurpose.{encode_of}
use Rattle.hex.specs.Hex.{encode_lower}
use Rattle.sha2.specs.Sha256.{sha256}
use Rattle.lot_base.specs.Day.{day_text}
use Rattle.lot_base.specs.Text.{same_text}
use Rattle.lot_book_report.specs.declared.digest.BookDigest.{BookDigest}
use Rattle.lot_cells.proofs.BalanceLemmas.{account_balanced, command_balanced, commodity_balanced, gain_total_balanced, holding_balanced, lot_total_balanced, month_balanced, sale_balanced, year_balanced}
use Rattle.lot_cells.specs.Entry.{command_html, outside}
use Rattle.lot_cells.specs.Holdings.{account_html}
use Rattle.lot_cells.specs.declared.holdings.LotTotals.{LotTotals}
use Rattle.lot_html.proofs.BalanceLemmas.{Closing, IsSaid, alone, attribute, begin, closed, done, each_is_balanced, element_is_balanced, inside, is_balanced, more, none_is_balanced, nothing_said, plainly, quoted, saying, says, spoken, value}
use Rattle.lot_html.proofs.LawLemmas.{balanced_behind}
use Rattle.lot_html.specs.Html.{IsBalanced, meta}
use Rattle.lot_html.specs.Text.{escaped}
use Rattle.lot_months.specs.Range.{months_before, most_months}
use Rattle.lot_months.specs.declared.range.MonthRange.{MonthRange}
use Rattle.lot_plot.proofs.BalanceLemmas.{bars_balanced, lines_balanced, month, number, plain_said}
use Rattle.lot_plot.proofs.PlainLemmas.{decimal_plain, grouped_plain}
use Rattle.lot_plot.specs.Month.{month_text}
use Rattle.lot_plot.specs.Plot.{all_of}
use Rattle.lot_plot.specs.declared.bars.YearBar.{YearBar}
use Rattle.lot_plot.specs.declared.lines.MonthPoint.{MonthPoint}
use Rattle.lot_report.specs.declared.holdings.ValuedHolding.{ValuedHolding}
use Rattle.lot_rows.specs.declared.entry.EntryRow.{EntryRow}
use Rattle.lot_walk.specs.Gains.{Range, is_within}
use Rattle.lot_walk.specs.declared.gains.NumberedSale.{NumberedSale}
use Rattle.lot_page_report.specs.Parts.{PageOf, Parts, asked_prices, covered, day_of_row, days_of, rows_within}
use Rattle.lot_page_report.specs.Sections.{AreCurrencyMonths, AreCurrencyYears, AreMonthRows, IsCurrencyMonths, IsCurrencyYears, IsMonths, IsMonthsInner, IsTextOf, IsYears, Row, account_front, bars_of, bound_note, commodities_html, commodities_inner, commodities_table, commodity_row, entries_end, entry_piece, entry_row_html, figure_html, fold_front, fold_with, foot_html, has_month, has_values, held_html, held_inner, is_in, journal_end, journal_html, key_of, last_month, lot_total, month_in, next_month, no_lots_note, pieces_behind, row_html, rows_behind, sale_piece, sale_row, sales_html, shares_if_any, summary_html, target_of, total_row, totals_of, unless_some, unpriced_in, unpriced_note, year_row}
use Rattle.lot_page_report.specs.Text.{at_prices, count_html, days_html, digest_html, front_begin, front_html, header_html, header_with, name_html, no_sales, of_day, part_end, part_front, rounding_note, sales_head, style, viewport, when_html, within_html}

-- texts one behind the other, and more behind them
behind : List (List ℕ) → List ℕ → List ℕ
behind [] rest = rest
behind (piece ∷ pieces) rest = piece ++ behind pieces rest

all_behind : (pieces : List (List ℕ)) (rest : List ℕ) → behind pieces rest ≡ all_of pieces ++ rest
unfolding behind
all_behind [] rest = refl
all_behind (piece ∷ pieces) rest = ap (λ (t : List ℕ). piece ++ t) (all_behind pieces rest) ∙ sym (append_assoc piece (all_of pieces) rest)

count : (n : ℕ) → IsSaid (count_html n)
count n = plain_said (count_html n) (grouped_plain (decimal n) (decimal_plain n))

-- one thing behind another, the last one behind nothing
last_is_balanced : (first : List ℕ) → IsBalanced first → IsBalanced (first ++ [])
last_is_balanced first balanced = subst IsBalanced (sym (append-nil first)) balanced

-- ---- the head

within_said : (within all : ℕ) → IsSaid (within_html within all)
within_said within all = elim (cases_Bool (within == all)) [
  | inl is ↦ rw (is) nothing_said
  | inr isnt ↦ rw (isnt) (spoken (count within) (spoken (plainly (codes " of ") refl) nothing_said))
]

days_said : (days : Option (ℤ × ℤ)) (within all : ℕ) → IsSaid (days_html days within all)
days_said None within all = plainly (codes "No entries") refl
days_said (Some days) within all =
    spoken (says (day_text days.0)) (spoken (plainly (codes " to ") refl) (spoken (says (day_text days.1)) (spoken (plainly (codes ", ") refl)
    (spoken (within_said within all) (spoken (count all) (spoken (plainly (codes " entries") refl) nothing_said))))))

digest_balanced : (digest : Option BookDigest) → IsBalanced (digest_html digest)
digest_balanced None = none_is_balanced
digest_balanced (Some digest) =
    (is_balanced _
    (begin (codes "p") (inside (saying (plainly (codes "sha256 ") refl) (begin (codes "code") (inside
    (saying (says (encode_lower digest.sha256)) (closed (codes "code") (closed (codes "p")
    (saying (plainly (codes "\n") refl) done))))))))))

header_balanced : (name text : List ℕ) (digest : Option BookDigest) → IsSaid text → IsBalanced (header_with name text digest)
header_balanced name text digest days =
    (is_balanced _
    (begin (codes "header") (inside (saying (plainly (codes "\n") refl) (begin (codes "h1") (inside
    (more (name_html name) (element_is_balanced (codes "bdi") [] name) (closed (codes "h1")
    (saying (plainly (codes "\n") refl) (begin (codes "p") (inside (saying (days) (closed (codes "p")
    (saying (plainly (codes "\n") refl) (more (digest_html digest) (digest_balanced digest)
    (begin (codes "nav") (inside (saying (plainly (codes "\n") refl) (begin (codes "ul") (inside
    (saying (plainly (codes "\n") refl) (begin (codes "li") (inside (begin (codes "a")
    (attribute (codes "href") (value (plainly (codes "#years") refl) (quoted (inside
    (saying (plainly (codes "Gains by year") refl) (closed (codes "a") (closed (codes "li")
    (saying (plainly (codes "\n") refl) (begin (codes "li") (inside (begin (codes "a")
    (attribute (codes "href") (value (plainly (codes "#commodities") refl) (quoted (inside
    (saying (plainly (codes "Gains by commodity") refl) (closed (codes "a") (closed (codes "li")
    (saying (plainly (codes "\n") refl) (begin (codes "li") (inside (begin (codes "a")
    (attribute (codes "href") (value (plainly (codes "#holdings") refl) (quoted (inside
    (saying (plainly (codes "Holdings") refl) (closed (codes "a") (closed (codes "li")
    (saying (plainly (codes "\n") refl) (begin (codes "li") (inside (begin (codes "a")
    (attribute (codes "href") (value (plainly (codes "#months") refl) (quoted (inside
    (saying (plainly (codes "Worth by month") refl) (closed (codes "a") (closed (codes "li")
    (saying (plainly (codes "\n") refl) (begin (codes "li") (inside (begin (codes "a")
    (attribute (codes "href") (value (plainly (codes "#sales") refl) (quoted (inside
    (saying (plainly (codes "Sales") refl) (closed (codes "a") (closed (codes "li")
    (saying (plainly (codes "\n") refl) (begin (codes "li") (inside (begin (codes "a")
    (attribute (codes "href") (value (plainly (codes "#journal") refl) (quoted (inside
    (saying (plainly (codes "Journal") refl) (closed (codes "a") (closed (codes "li")
    (saying (plainly (codes "\n") refl) (closed (codes "ul") (saying (plainly (codes "\n") refl)
    (closed (codes "nav") (saying (plainly (codes "\n") refl) (closed (codes "header")
    (saying (plainly (codes "\n") refl) done)))))))))))))))))))))))))))))))))))))))))))))))))))))))))))))))))))))))))))))))))))))))))))))

-- ---- gains

figure_balanced : (currency plot : List ℕ) (bars : List YearBar) → IsBalanced plot → IsBalanced (figure_html currency plot bars)
figure_balanced currency plot [] balanced = none_is_balanced
figure_balanced currency plot (bar ∷ bars) balanced =
    (is_balanced _
    (begin (codes "figure") (inside (saying (plainly (codes "\n") refl) (begin (codes "figcaption") (inside
    (saying (plainly (codes "Gains in ") refl)
    (more (name_html currency) (element_is_balanced (codes "bdi") [] currency)
    (saying (plainly (codes " by year") refl) (closed (codes "figcaption")
    (saying (plainly (codes "\n") refl) (more (plot) (balanced) (closed (codes "figure")
    (saying (plainly (codes "\n") refl) done))))))))))))))

year_row_balanced : (currency : List ℕ) (row : Row) → IsBalanced (year_row currency row)
year_row_balanced currency row = elim (cases_Bool (is_in currency row)) [
  | inl is ↦ rw (is) (year_balanced (key_of row.0.0) row.1)
  | inr isnt ↦ rw (isnt) none_is_balanced
]

currency_balanced : (currency : List ℕ) (rows : List Row) (text : List ℕ) → IsCurrencyYears currency rows text → IsBalanced text
currency_balanced currency rows text (plot, is_plot, is) =
    subst IsBalanced (sym is)
    (is_balanced _
    (begin (codes "div") (attribute (codes "class") (value (plainly (codes "pair") refl) (quoted (inside
    (saying (plainly (codes "\n") refl)
    (more (figure_html currency plot (bars_of currency rows)) (figure_balanced currency plot (bars_of currency rows) (bars_balanced currency (bars_of currency rows) plot is_plot))
    (begin (codes "div") (attribute (codes "class") (value (plainly (codes "wide") refl) (quoted
    (attribute (codes "role") (value (plainly (codes "region") refl) (quoted (attribute (codes "tabindex")
    (value (plainly (codes "0") refl) (quoted (attribute (codes "aria-label")
    (value (plainly (codes "Sales in ") refl) (value (says currency) (value (plainly (codes " by year") refl)
    (quoted (inside (saying (plainly (codes "\n") refl) (begin (codes "table") (inside
    (saying (plainly (codes "\n") refl) (begin (codes "caption") (inside
    (saying (plainly (codes "Sales in ") refl)
    (more (name_html currency) (element_is_balanced (codes "bdi") [] currency)
    (saying (plainly (codes " by year") refl) (closed (codes "caption") (saying (plainly (codes "\n") refl)
    (begin (codes "thead") (inside (saying (plainly (codes "\n") refl) (begin (codes "tr") (inside
    (begin (codes "th") (attribute (codes "scope") (value (plainly (codes "col") refl) (quoted (inside
    (saying (plainly (codes "Year") refl) (closed (codes "th") (begin (codes "th") (attribute (codes "class")
    (value (plainly (codes "n") refl) (quoted (attribute (codes "scope") (value (plainly (codes "col") refl)
    (quoted (inside (saying (plainly (codes "Lots") refl) (closed (codes "th") (begin (codes "th")
    (attribute (codes "class") (value (plainly (codes "n") refl) (quoted (attribute (codes "scope")
    (value (plainly (codes "col") refl) (quoted (inside (saying (plainly (codes "Proceeds") refl)
    (closed (codes "th") (begin (codes "th") (attribute (codes "class") (value (plainly (codes "n") refl)
    (quoted (attribute (codes "scope") (value (plainly (codes "col") refl) (quoted (inside
    (saying (plainly (codes "Cost") refl) (closed (codes "th") (begin (codes "th") (attribute (codes "class")
    (value (plainly (codes "n") refl) (quoted (attribute (codes "scope") (value (plainly (codes "col") refl)
    (quoted (inside (saying (plainly (codes "Gain") refl) (closed (codes "th") (closed (codes "tr")
    (saying (plainly (codes "\n") refl) (closed (codes "thead") (saying (plainly (codes "\n") refl)
    (begin (codes "tbody") (inside (saying (plainly (codes "\n") refl)
    (more (flat_map (year_row currency) rows) (each_is_balanced (year_row currency) rows (year_row_balanced currency))
    (closed (codes "tbody") (saying (plainly (codes "\n") refl) (closed (codes "table")
    (saying (plainly (codes "\n") refl) (closed (codes "div") (saying (plainly (codes "\n") refl)
    (closed (codes "div") (saying (plainly (codes "\n") refl) done)))))))))))))))))))))))))))))))))))))))))))))))))))))))))))))))))))))))))))))))))))))))))))))))))))))))

each_currency_balanced : (rows currencies : List Row) (text : List ℕ) → AreCurrencyYears rows currencies text → IsBalanced text
each_currency_balanced rows [] text is = subst IsBalanced (sym is) none_is_balanced
each_currency_balanced rows (currency ∷ currencies) text (first, is_first, rest, are, is) =
    subst IsBalanced (sym is)
    (balanced_behind first rest (currency_balanced currency.0.1 rows first is_first) (each_currency_balanced rows currencies rest are))

no_sales_balanced : IsBalanced no_sales
no_sales_balanced =
    (is_balanced _
    (begin (codes "p") (inside (saying (plainly (codes "No sales") refl) (closed (codes "p")
    (saying (plainly (codes "\n") refl) done))))))

unless_some_balanced : (currencies : List Row) → IsBalanced (unless_some currencies no_sales)
unless_some_balanced [] = no_sales_balanced
unless_some_balanced (currency ∷ currencies) = none_is_balanced

years_balanced : (rows currencies : List Row) (text : List ℕ) → IsYears rows currencies text → IsBalanced text
years_balanced rows currencies text (inner, are, is) =
    subst IsBalanced (sym is)
    (is_balanced _
    (begin (codes "section") (attribute (codes "id") (value (plainly (codes "years") refl) (quoted (inside
    (saying (plainly (codes "\n") refl) (begin (codes "h2") (inside
    (saying (plainly (codes "Gains by year") refl) (closed (codes "h2") (saying (plainly (codes "\n") refl)
    (more (unless_some currencies no_sales) (unless_some_balanced currencies)
    (more (inner) (each_currency_balanced rows currencies inner are) (closed (codes "section")
    (saying (plainly (codes "\n") refl) done))))))))))))))))

foot_balanced : (rows : List ℕ) → IsBalanced rows → IsBalanced (foot_html rows)
foot_balanced [] balanced = none_is_balanced
foot_balanced (byte ∷ bytes) balanced =
    let rows = byte ∷ bytes in
    (is_balanced _
    (begin (codes "tfoot") (inside (saying (plainly (codes "\n") refl) (more (rows) (balanced)
    (closed (codes "tfoot") (saying (plainly (codes "\n") refl) done)))))))

commodity_row_balanced : (row : Row) → IsBalanced (commodity_row row)
commodity_row_balanced row = commodity_balanced (key_of row.0.0) row.0.1 row.1

total_row_balanced : (row : Row) → IsBalanced (total_row row)
total_row_balanced row = elim (cases_Bool (nat_lt 0 row.1.priced_lots)) [
  | inl is ↦ rw (is) (gain_total_balanced row.0.1 row.1.gain)
  | inr isnt ↦ rw (isnt) none_is_balanced
]

commodities_table_balanced : (rows currencies : List Row) → IsBalanced (commodities_table rows currencies)
commodities_table_balanced rows currencies =
    (is_balanced _
    (begin (codes "div") (attribute (codes "class") (value (plainly (codes "wide") refl) (quoted
    (attribute (codes "role") (value (plainly (codes "region") refl) (quoted (attribute (codes "tabindex")
    (value (plainly (codes "0") refl) (quoted (attribute (codes "aria-label")
    (value (plainly (codes "Gains by commodity") refl) (quoted (inside (saying (plainly (codes "\n") refl)
    (begin (codes "table") (inside (saying (plainly (codes "\n") refl) (begin (codes "caption") (inside
    (saying (plainly (codes "What the sales gained, by commodity") refl) (closed (codes "caption")
    (saying (plainly (codes "\n") refl) (begin (codes "thead") (inside (saying (plainly (codes "\n") refl)
    (begin (codes "tr") (inside (begin (codes "th") (attribute (codes "scope")
    (value (plainly (codes "col") refl) (quoted (inside (saying (plainly (codes "Commodity") refl)
    (closed (codes "th") (begin (codes "th") (attribute (codes "scope") (value (plainly (codes "col") refl)
    (quoted (inside (saying (plainly (codes "Currency") refl) (closed (codes "th") (begin (codes "th")
    (attribute (codes "class") (value (plainly (codes "n") refl) (quoted (attribute (codes "scope")
    (value (plainly (codes "col") refl) (quoted (inside (saying (plainly (codes "Lots") refl)
    (closed (codes "th") (begin (codes "th") (attribute (codes "class") (value (plainly (codes "n") refl)
    (quoted (attribute (codes "scope") (value (plainly (codes "col") refl) (quoted (inside
    (saying (plainly (codes "Proceeds") refl) (closed (codes "th") (begin (codes "th")
    (attribute (codes "class") (value (plainly (codes "n") refl) (quoted (attribute (codes "scope")
    (value (plainly (codes "col") refl) (quoted (inside (saying (plainly (codes "Cost") refl)
    (closed (codes "th") (begin (codes "th") (attribute (codes "class") (value (plainly (codes "n") refl)
    (quoted (attribute (codes "scope") (value (plainly (codes "col") refl) (quoted (inside
    (saying (plainly (codes "Gain") refl) (closed (codes "th") (closed (codes "tr")
    (saying (plainly (codes "\n") refl) (closed (codes "thead") (saying (plainly (codes "\n") refl)
    (begin (codes "tbody") (inside (saying (plainly (codes "\n") refl)
    (more (flat_map commodity_row rows) (each_is_balanced commodity_row rows commodity_row_balanced)
    (closed (codes "tbody") (saying (plainly (codes "\n") refl)
    (more (foot_html (flat_map total_row currencies)) (foot_balanced (flat_map total_row currencies) (each_is_balanced total_row currencies total_row_balanced))
    (closed (codes "table") (saying (plainly (codes "\n") refl) (closed (codes "div")
    (saying (plainly (codes "\n") refl) done))))))))))))))))))))))))))))))))))))))))))))))))))))))))))))))))))))))))))))))))))))))))))))))))))

commodities_inner_balanced : (rows currencies : List Row) → IsBalanced (commodities_inner rows currencies)
commodities_inner_balanced [] currencies = no_sales_balanced
commodities_inner_balanced (row ∷ rows) currencies = commodities_table_balanced (row ∷ rows) currencies

commodities_balanced : (rows currencies : List Row) → IsBalanced (commodities_html rows currencies)
commodities_balanced rows currencies =
    (is_balanced _
    (begin (codes "section") (attribute (codes "id") (value (plainly (codes "commodities") refl) (quoted
    (inside (saying (plainly (codes "\n") refl) (begin (codes "h2") (inside
    (saying (plainly (codes "Gains by commodity") refl) (closed (codes "h2")
    (saying (plainly (codes "\n") refl)
    (more (commodities_inner rows currencies) (commodities_inner_balanced rows currencies)
    (closed (codes "section") (saying (plainly (codes "\n") refl) done)))))))))))))))

-- ---- holdings

of_day_said : (day : Option ℤ) → IsSaid (of_day day)
of_day_said None = nothing_said
of_day_said (Some day) = spoken (plainly (codes " of ") refl) (says (day_text day))

at_prices_said : (day : Option ℤ) → IsSaid (at_prices day)
at_prices_said None = plainly (codes ", at the last prices") refl
at_prices_said (Some day) = spoken (plainly (codes ", at the prices of ") refl) (says (day_text day))

when_balanced : (page : PageOf) → IsBalanced (when_html page)
when_balanced page =
    (is_balanced _
    (begin (codes "p") (attribute (codes "class") (value (plainly (codes "note") refl) (quoted (inside
    (saying (plainly (codes "At the end") refl) (saying (of_day_said page.last)
    (saying (at_prices_said (asked_prices page)) (closed (codes "p") (saying (plainly (codes "\n") refl) done)))))))))))

unpriced_balanced : (number : ℕ) → IsBalanced (unpriced_note number)
unpriced_balanced number = elim (cases_Bool (number == 0)) [
  | inl is ↦ rw (is) none_is_balanced
  | inr isnt ↦
      rw (isnt)
      (is_balanced _
      (begin (codes "p") (attribute (codes "class") (value (plainly (codes "note") refl) (quoted (inside
      (saying (plainly (codes "Lots without a price: ") refl) (saying (count number)
      (saying (plainly (codes ". They count in the total cost, not in the total value and gain.") refl) (closed (codes "p")
      (saying (plainly (codes "\n") refl) done)))))))))))
]

shares_balanced : (totals : List (List ℕ × LotTotals)) → IsBalanced (shares_if_any totals)
shares_balanced totals = elim (cases_Bool (has_values totals)) [
  | inl is ↦
      rw (is)
      (is_balanced _
      (begin (codes "p") (attribute (codes "class") (value (plainly (codes "note") refl) (quoted (inside
      (saying (plainly (codes "A share is of the values of all lots in the currency, whatever their signs, rounded down to a tenth of a percent.") refl)
      (closed (codes "p") (saying (plainly (codes "\n") refl) done)))))))))
  | inr isnt ↦ rw (isnt) none_is_balanced
]

-- the rows of holdings end in the rows of an account, or begin none
open_at : Option (List ℕ) → List (List ℕ) → List (List ℕ)
open_at None tags = tags
open_at (Some account) tags = codes "tbody" ∷ tags

account_closes : (before : Option (List ℕ)) (account rest : List ℕ) (tags : List (List ℕ)) → Closing (codes "tbody" ∷ tags) rest
    → Closing (open_at before tags) (account_front before account ++ rest)
unfolding open_at
account_closes None account rest tags closing =
    (begin (codes "tbody") (inside (saying (plainly (codes "\n") refl)
    (more (account_html account) (account_balanced account) closing))))
account_closes (Some before) account rest tags closing = elim (cases_Bool (same_text before account)) [
  | inl is ↦ rw (is) closing
  | inr isnt ↦
      rw (isnt)
      (closed (codes "tbody") (saying (plainly (codes "\n") refl) (begin (codes "tbody") (inside
      (saying (plainly (codes "\n") refl) (more (account_html account) (account_balanced account) closing))))))
]

rows_close : (totals : List (List ℕ × LotTotals)) (before : Option (List ℕ)) (row : ValuedHolding) (rows : List ValuedHolding) (rest : List ℕ)
    (tags : List (List ℕ)) → Closing (codes "tbody" ∷ tags) rest → Closing (open_at before tags) (rows_behind totals before (row ∷ rows) ++ rest)
unfolding open_at
rows_close totals before row [] rest tags closing =
    subst (Closing (open_at before tags))
    (ap (λ (t : List ℕ). account_front before row.holding.account ++ t) (ap (λ (t : List ℕ). t ++ rest) (sym (append-nil (row_html totals row))))
    ∙ sym (append_assoc (account_front before row.holding.account) (row_html totals row ++ []) rest))
    (account_closes before row.holding.account _ tags
    (more (row_html totals row) (holding_balanced row (totals_of totals row.holding.lot)) closing))
rows_close totals before row (next ∷ rows) rest tags closing =
    let others = rows_behind totals (Some row.holding.account) (next ∷ rows) in
    subst (Closing (open_at before tags))
    (ap (λ (t : List ℕ). account_front before row.holding.account ++ t) (sym (append_assoc (row_html totals row) others rest))
    ∙ sym (append_assoc (account_front before row.holding.account) (row_html totals row ++ others) rest))
    (account_closes before row.holding.account _ tags
    (more (row_html totals row) (holding_balanced row (totals_of totals row.holding.lot))
    (rows_close totals (Some row.holding.account) next rows rest tags closing)))

held_inner_balanced : (held : List ValuedHolding) (totals : List (List ℕ × LotTotals)) → IsBalanced (held_inner held totals)
unfolding open_at
held_inner_balanced [] totals =
    (is_balanced _
    (begin (codes "p") (inside (saying (plainly (codes "Nothing held") refl) (closed (codes "p")
    (saying (plainly (codes "\n") refl) done))))))
held_inner_balanced (row ∷ rows) totals =
    let closing : Closing (codes "table" ∷ codes "div" ∷ []) _ =
    rows_close totals None row rows _ (codes "table" ∷ codes "div" ∷ [])
    (closed (codes "tbody") (saying (plainly (codes "\n") refl)
    (more (foot_html (flat_map lot_total totals)) (foot_balanced (flat_map lot_total totals) (each_is_balanced lot_total totals (λ total. lot_total_balanced total.0 total.1)))
    (closed (codes "table") (saying (plainly (codes "\n") refl) (closed (codes "div")
    (saying (plainly (codes "\n") refl)
    (more (unpriced_note (unpriced_in (row ∷ rows))) (unpriced_balanced (unpriced_in (row ∷ rows)))
    (more (shares_if_any totals) (shares_balanced totals) done))))))))) in
    is_balanced _
    (begin (codes "div") (attribute (codes "class") (value (plainly (codes "wide") refl) (quoted
    (attribute (codes "role") (value (plainly (codes "region") refl) (quoted (attribute (codes "tabindex")
    (value (plainly (codes "0") refl) (quoted (attribute (codes "aria-label")
    (value (plainly (codes "Holdings") refl) (quoted (inside (saying (plainly (codes "\n") refl)
    (begin (codes "table") (inside (saying (plainly (codes "\n") refl) (begin (codes "caption") (inside
    (saying (plainly (codes "What accounts hold, lot by lot") refl) (closed (codes "caption")
    (saying (plainly (codes "\n") refl) (begin (codes "thead") (inside (saying (plainly (codes "\n") refl)
    (begin (codes "tr") (inside (begin (codes "th") (attribute (codes "scope")
    (value (plainly (codes "col") refl) (quoted (inside (saying (plainly (codes "Commodity") refl)
    (closed (codes "th") (begin (codes "th") (attribute (codes "class") (value (plainly (codes "n") refl)
    (quoted (attribute (codes "scope") (value (plainly (codes "col") refl) (quoted (inside
    (saying (plainly (codes "Units") refl) (closed (codes "th") (begin (codes "th")
    (attribute (codes "scope") (value (plainly (codes "col") refl) (quoted (inside
    (saying (plainly (codes "Acquired") refl) (closed (codes "th") (begin (codes "th")
    (attribute (codes "scope") (value (plainly (codes "col") refl) (quoted (inside
    (saying (plainly (codes "Label") refl) (closed (codes "th") (begin (codes "th")
    (attribute (codes "class") (value (plainly (codes "n") refl) (quoted (attribute (codes "scope")
    (value (plainly (codes "col") refl) (quoted (inside (saying (plainly (codes "Unit cost") refl)
    (closed (codes "th") (begin (codes "th") (attribute (codes "class") (value (plainly (codes "n") refl)
    (quoted (attribute (codes "scope") (value (plainly (codes "col") refl) (quoted (inside
    (saying (plainly (codes "Cost") refl) (closed (codes "th") (begin (codes "th") (attribute (codes "class")
    (value (plainly (codes "n") refl) (quoted (attribute (codes "scope") (value (plainly (codes "col") refl)
    (quoted (inside (saying (plainly (codes "Price") refl) (closed (codes "th") (begin (codes "th")
    (attribute (codes "class") (value (plainly (codes "n") refl) (quoted (attribute (codes "scope")
    (value (plainly (codes "col") refl) (quoted (inside (saying (plainly (codes "Value") refl)
    (closed (codes "th") (begin (codes "th") (attribute (codes "class") (value (plainly (codes "n") refl)
    (quoted (attribute (codes "scope") (value (plainly (codes "col") refl) (quoted (inside
    (saying (plainly (codes "Unrealised gain") refl) (closed (codes "th") (begin (codes "th")
    (attribute (codes "scope") (value (plainly (codes "col") refl) (quoted (inside
    (saying (plainly (codes "Currency") refl) (closed (codes "th") (begin (codes "th")
    (attribute (codes "class") (value (plainly (codes "n") refl) (quoted (attribute (codes "scope")
    (value (plainly (codes "col") refl) (quoted (inside (saying (plainly (codes "Share") refl)
    (closed (codes "th") (closed (codes "tr") (saying (plainly (codes "\n") refl) (closed (codes "thead")
    (saying (plainly (codes "\n") refl) closing))))))))))))))))))))))))))))))))))))))))))))))))))))))))))))))))))))))))))))))))))))))))))))))))))))))))))))))))))))))))))))))))))

held_balanced : (page : PageOf) (held : List ValuedHolding) (totals : List (List ℕ × LotTotals)) → IsBalanced (held_html page held totals)
held_balanced page held totals =
    (is_balanced _
    (begin (codes "section") (attribute (codes "id") (value (plainly (codes "holdings") refl) (quoted (inside
    (saying (plainly (codes "\n") refl) (begin (codes "h2") (inside (saying (plainly (codes "Holdings") refl)
    (closed (codes "h2") (saying (plainly (codes "\n") refl) (more (when_html page) (when_balanced page)
    (more (held_inner held totals) (held_inner_balanced held totals) (closed (codes "section")
    (saying (plainly (codes "\n") refl) done))))))))))))))))

-- ---- months

month_rows_balanced : (first : ℕ) (points : List MonthPoint) (text : List ℕ) → AreMonthRows first points text → IsBalanced text
month_rows_balanced first [] text is = subst IsBalanced (sym is) none_is_balanced
month_rows_balanced first (point ∷ points) text (at, is_at, rest, are, is) =
    subst IsBalanced (sym is) (balanced_behind _ rest (month_balanced at point) (month_rows_balanced (next_month first) points rest are))

currency_months_balanced : (first : ℕ) (currency : List ℕ) (points : List MonthPoint) (text : List ℕ) → IsCurrencyMonths first currency points text
    → IsBalanced text
currency_months_balanced first currency points text (plot, is_plot, rows, are, is) =
    subst IsBalanced (sym is)
    (is_balanced _
    (begin (codes "figure") (inside (saying (plainly (codes "\n") refl) (begin (codes "figcaption") (inside
    (saying (plainly (codes "Worth and cost of lots in ") refl)
    (more (name_html currency) (element_is_balanced (codes "bdi") [] currency)
    (saying (plainly (codes " at the end of each month") refl) (begin (codes "span")
    (attribute (codes "class") (value (plainly (codes "key") refl) (quoted (inside
    (saying (plainly (codes "worth") refl) (closed (codes "span") (begin (codes "span")
    (attribute (codes "class") (value (plainly (codes "key") refl) (quoted (inside
    (saying (plainly (codes "cost") refl) (closed (codes "span") (closed (codes "figcaption")
    (saying (plainly (codes "\n") refl) (more (plot) (lines_balanced currency first points plot is_plot)
    (begin (codes "details") (inside (saying (plainly (codes "\n") refl) (begin (codes "summary") (inside
    (saying (plainly (codes "The numbers") refl) (closed (codes "summary")
    (saying (plainly (codes "\n") refl) (begin (codes "div") (attribute (codes "class")
    (value (plainly (codes "wide") refl) (quoted (attribute (codes "role")
    (value (plainly (codes "region") refl) (quoted (attribute (codes "tabindex")
    (value (plainly (codes "0") refl) (quoted (attribute (codes "aria-label")
    (value (plainly (codes "Worth and cost of lots in ") refl) (value (says currency) (quoted (inside
    (saying (plainly (codes "\n") refl) (begin (codes "table") (inside (saying (plainly (codes "\n") refl)
    (begin (codes "caption") (inside (saying (plainly (codes "Worth and cost of lots in ") refl)
    (more (name_html currency) (element_is_balanced (codes "bdi") [] currency) (closed (codes "caption")
    (saying (plainly (codes "\n") refl) (begin (codes "thead") (inside (saying (plainly (codes "\n") refl)
    (begin (codes "tr") (inside (begin (codes "th") (attribute (codes "scope")
    (value (plainly (codes "col") refl) (quoted (inside (saying (plainly (codes "End of") refl)
    (closed (codes "th") (begin (codes "th") (attribute (codes "class") (value (plainly (codes "n") refl)
    (quoted (attribute (codes "scope") (value (plainly (codes "col") refl) (quoted (inside
    (saying (plainly (codes "Worth") refl) (closed (codes "th") (begin (codes "th")
    (attribute (codes "class") (value (plainly (codes "n") refl) (quoted (attribute (codes "scope")
    (value (plainly (codes "col") refl) (quoted (inside (saying (plainly (codes "Cost") refl)
    (closed (codes "th") (begin (codes "th") (attribute (codes "class") (value (plainly (codes "n") refl)
    (quoted (attribute (codes "scope") (value (plainly (codes "col") refl) (quoted (inside
    (saying (plainly (codes "Unrealised gain") refl) (closed (codes "th") (closed (codes "tr")
    (saying (plainly (codes "\n") refl) (closed (codes "thead") (saying (plainly (codes "\n") refl)
    (begin (codes "tbody") (inside (saying (plainly (codes "\n") refl)
    (more (rows) (month_rows_balanced first points rows are) (closed (codes "tbody")
    (saying (plainly (codes "\n") refl) (closed (codes "table") (saying (plainly (codes "\n") refl)
    (closed (codes "div") (saying (plainly (codes "\n") refl) (closed (codes "details")
    (saying (plainly (codes "\n") refl) (closed (codes "figure") (saying (plainly (codes "\n") refl) done)))))))))))))))))))))))))))))))))))))))))))))))))))))))))))))))))))))))))))))))))))))))))))))))))))))))))))))))))))))))

each_months_balanced : (first : ℕ) (months : List (List ℕ × List MonthPoint)) (text : List ℕ) → AreCurrencyMonths first months text → IsBalanced text
each_months_balanced first [] text is = subst IsBalanced (sym is) none_is_balanced
each_months_balanced first (one ∷ months) text (part, is_part, rest, are, is) =
    subst IsBalanced (sym is)
    (balanced_behind part rest (currency_months_balanced first one.0 one.1 part is_part) (each_months_balanced first months rest are))

bound_balanced : (whole : ℕ) → IsBalanced (bound_note whole)
bound_balanced whole = elim (cases_Bool (nat_lt most_months whole)) [
  | inl is ↦
      rw (is)
      (is_balanced _
      (begin (codes "p") (attribute (codes "class") (value (plainly (codes "note") refl) (quoted (inside
      (saying (plainly (codes "The last ") refl) (saying (number most_months)
      (saying (plainly (codes " of ") refl) (saying (count whole) (saying (plainly (codes " months") refl)
      (closed (codes "p") (saying (plainly (codes "\n") refl) done)))))))))))))
  | inr isnt ↦ rw (isnt) none_is_balanced
]

no_lots_balanced : IsBalanced no_lots_note
no_lots_balanced =
    (is_balanced _
    (begin (codes "p") (inside (saying (plainly (codes "No lots") refl) (closed (codes "p")
    (saying (plainly (codes "\n") refl) done))))))

rounding_balanced : IsBalanced rounding_note
rounding_balanced =
    (is_balanced _
    (begin (codes "p") (attribute (codes "class") (value (plainly (codes "note") refl) (quoted (inside
    (saying (plainly (codes "The last month ends on the last day of the page. A line is broken where some units have no price. Heights are rounded down to a thousandth of the plot.") refl)
    (closed (codes "p") (saying (plainly (codes "\n") refl) done)))))))))

months_inner_balanced : (range : Option MonthRange) (months : List (List ℕ × List MonthPoint)) (text : List ℕ) → IsMonthsInner range months text
    → IsBalanced text
months_inner_balanced None months text is = subst IsBalanced (sym is) no_lots_balanced
months_inner_balanced (Some range) [] text is = subst IsBalanced (sym is) no_lots_balanced
months_inner_balanced (Some range) (one ∷ months) text (inner, are, is) =
    subst IsBalanced (sym is)
    (balanced_behind (bound_note range.whole) _ (bound_balanced range.whole)
    (balanced_behind inner _ (each_months_balanced range.first.0 (one ∷ months) inner are) (last_is_balanced rounding_note rounding_balanced)))

months_balanced : (range : Option MonthRange) (months : List (List ℕ × List MonthPoint)) (text : List ℕ) → IsMonths range months text
    → IsBalanced text
months_balanced range months text (inner, are, is) =
    subst IsBalanced (sym is)
    (is_balanced _
    (begin (codes "section") (attribute (codes "id") (value (plainly (codes "months") refl) (quoted (inside
    (saying (plainly (codes "\n") refl) (begin (codes "h2") (inside
    (saying (plainly (codes "Worth by month") refl) (closed (codes "h2") (saying (plainly (codes "\n") refl)
    (more (inner) (months_inner_balanced range months inner are) (closed (codes "section")
    (saying (plainly (codes "\n") refl) done)))))))))))))))

-- ---- sales

sale_row_balanced : (sold : NumberedSale) → IsBalanced (sale_row sold)
sale_row_balanced sold = sale_balanced (target_of (months_before sold.sale.day)) sold.sale

others_balanced : (first : NumberedSale) (before sales : List NumberedSale) → IsBalanced (pieces_behind sale_piece (first ∷ before) sales)
others_balanced first before [] = none_is_balanced
others_balanced first before (sold ∷ sales) =
    balanced_behind (sale_row sold) _ (sale_row_balanced sold) (others_balanced first (before ++ sold ∷ []) sales)

sales_close : (sales : List NumberedSale) (rest : List ℕ) (tags : List (List ℕ)) → Closing tags rest
    → Closing (codes "section" ∷ tags) (sales_html sales ++ rest)
sales_close [] rest tags closing =
    (begin (codes "p") (inside (saying (plainly (codes "No sales") refl) (closed (codes "p")
    (saying (plainly (codes "\n") refl) (closed (codes "section") (saying (plainly (codes "\n") refl) closing)))))))
sales_close (sold ∷ sales) rest tags closing =
    let others = pieces_behind sale_piece (sold ∷ []) sales in
    let last = codes "</table>\n</div>\n</section>\n" in
    let same : sales_head ++ (sale_row sold ++ (others ++ (last ++ rest))) ≡ (((sales_head ++ sale_row sold) ++ others) ++ last) ++ rest =
    sym
    (append_assoc ((sales_head ++ sale_row sold) ++ others) last rest
    ∙ append_assoc (sales_head ++ sale_row sold) others (last ++ rest)
    ∙ append_assoc sales_head (sale_row sold) (others ++ (last ++ rest))) in
    let ended : Closing (codes "table" ∷ codes "div" ∷ codes "section" ∷ tags) (last ++ rest) =
    (closed (codes "table") (saying (plainly (codes "\n") refl) (closed (codes "div")
    (saying (plainly (codes "\n") refl) (closed (codes "section") (saying (plainly (codes "\n") refl) closing)))))) in
    let closing =
    more (sale_row sold) (sale_row_balanced sold) (more others (others_balanced sold [] sales) ended) in
    subst (Closing (codes "section" ∷ tags)) same
    (begin (codes "div") (attribute (codes "class") (value (plainly (codes "wide") refl) (quoted
    (attribute (codes "role") (value (plainly (codes "region") refl) (quoted (attribute (codes "tabindex")
    (value (plainly (codes "0") refl) (quoted (attribute (codes "aria-label")
    (value (plainly (codes "Sales") refl) (quoted (inside (saying (plainly (codes "\n") refl)
    (begin (codes "table") (inside (saying (plainly (codes "\n") refl) (begin (codes "caption") (inside
    (saying (plainly (codes "What was sold, lot by lot") refl) (closed (codes "caption")
    (saying (plainly (codes "\n") refl) (begin (codes "thead") (inside (saying (plainly (codes "\n") refl)
    (begin (codes "tr") (inside (begin (codes "th") (attribute (codes "scope")
    (value (plainly (codes "col") refl) (quoted (inside (saying (plainly (codes "Sold") refl)
    (closed (codes "th") (begin (codes "th") (attribute (codes "scope") (value (plainly (codes "col") refl)
    (quoted (inside (saying (plainly (codes "Account") refl) (closed (codes "th") (begin (codes "th")
    (attribute (codes "scope") (value (plainly (codes "col") refl) (quoted (inside
    (saying (plainly (codes "Commodity") refl) (closed (codes "th") (begin (codes "th")
    (attribute (codes "class") (value (plainly (codes "n") refl) (quoted (attribute (codes "scope")
    (value (plainly (codes "col") refl) (quoted (inside (saying (plainly (codes "Units") refl)
    (closed (codes "th") (begin (codes "th") (attribute (codes "scope") (value (plainly (codes "col") refl)
    (quoted (inside (saying (plainly (codes "Acquired") refl) (closed (codes "th") (begin (codes "th")
    (attribute (codes "class") (value (plainly (codes "n") refl) (quoted (attribute (codes "scope")
    (value (plainly (codes "col") refl) (quoted (inside (saying (plainly (codes "Days") refl)
    (closed (codes "th") (begin (codes "th") (attribute (codes "scope") (value (plainly (codes "col") refl)
    (quoted (inside (saying (plainly (codes "Term") refl) (closed (codes "th") (begin (codes "th")
    (attribute (codes "scope") (value (plainly (codes "col") refl) (quoted (inside
    (saying (plainly (codes "Label") refl) (closed (codes "th") (begin (codes "th")
    (attribute (codes "class") (value (plainly (codes "n") refl) (quoted (attribute (codes "scope")
    (value (plainly (codes "col") refl) (quoted (inside (saying (plainly (codes "Unit cost") refl)
    (closed (codes "th") (begin (codes "th") (attribute (codes "class") (value (plainly (codes "n") refl)
    (quoted (attribute (codes "scope") (value (plainly (codes "col") refl) (quoted (inside
    (saying (plainly (codes "Proceeds") refl) (closed (codes "th") (begin (codes "th")
    (attribute (codes "class") (value (plainly (codes "n") refl) (quoted (attribute (codes "scope")
    (value (plainly (codes "col") refl) (quoted (inside (saying (plainly (codes "Cost") refl)
    (closed (codes "th") (begin (codes "th") (attribute (codes "class") (value (plainly (codes "n") refl)
    (quoted (attribute (codes "scope") (value (plainly (codes "col") refl) (quoted (inside
    (saying (plainly (codes "Gain") refl) (closed (codes "th") (begin (codes "th") (attribute (codes "scope")
    (value (plainly (codes "col") refl) (quoted (inside (saying (plainly (codes "Currency") refl)
    (closed (codes "th") (closed (codes "tr") (saying (plainly (codes "\n") refl) (closed (codes "thead")
    (saying (plainly (codes "\n") refl) closing)))))))))))))))))))))))))))))))))))))))))))))))))))))))))))))))))))))))))))))))))))))))))))))))))))))))))))))))))))))))))))))))))))))))))))))

-- ---- the journal

entry_balanced : (row : EntryRow) → IsBalanced (entry_row_html row)
entry_balanced row =
    (is_balanced _
    (begin (codes "i") (inside (saying (plainly (codes "; entry ") refl) (saying (number row.number)
    (saying (plainly (codes " key ") refl) (saying (says row.source) (saying (plainly (codes " ") refl)
    (more (name_html row.name) (element_is_balanced (codes "bdi") [] row.name) (closed (codes "i")
    (saying (plainly (codes "\n") refl) (more (command_html outside row.body) (command_balanced row.body) done))))))))))))

-- a fold is open behind an entry
folded : Option ℕ → List (List ℕ) → List (List ℕ)
folded None tags = tags
folded (Some last) tags = codes "pre" ∷ codes "details" ∷ tags

summary_0 : (at : ℕ) (rest : List ℕ) (tags : List (List ℕ)) → Closing (codes "pre" ∷ tags) rest
    → Closing tags (behind (codes "<summary>" ∷ month_text at ∷ codes "</summary>\n<pre>" ∷ []) rest)
unfolding behind
summary_0 at rest tags closing =
    (begin (codes "summary") (inside (saying (month at) (closed (codes "summary")
    (saying (plainly (codes "\n") refl) (begin (codes "pre") (inside closing)))))))

summary_1 : (at : ℕ) (rest : List ℕ) (tags : List (List ℕ)) → Closing (codes "pre" ∷ tags) rest
    → Closing tags (behind (codes "<summary id=\"" ∷ target_of at ∷ codes "\">" ∷ month_text at ∷ codes "</summary>\n<pre>" ∷ []) rest)
unfolding behind
summary_1 at rest tags closing =
    (begin (codes "summary") (attribute (codes "id") (value (plainly (codes "m") refl) (value (month at)
    (quoted (inside (saying (month at) (closed (codes "summary") (saying (plainly (codes "\n") refl)
    (begin (codes "pre") (inside closing)))))))))))

summary_closes : (is_first : Bool) (at : ℕ) (rest : List ℕ) (tags : List (List ℕ)) → Closing (codes "pre" ∷ tags) rest
    → Closing tags (summary_html is_first at ++ rest)
summary_closes false at rest tags closing =
    subst (Closing tags) (all_behind (codes "<summary>" ∷ month_text at ∷ codes "</summary>\n<pre>" ∷ []) rest)
    (summary_0 at rest tags closing)
summary_closes true at rest tags closing =
    subst (Closing tags)
    (all_behind (codes "<summary id=\"" ∷ target_of at ∷ codes "\">" ∷ month_text at ∷ codes "</summary>\n<pre>" ∷ []) rest)
    (summary_1 at rest tags closing)

fold_begins : (is_first : Bool) (at : ℕ) (rest : List ℕ) (tags : List (List ℕ)) → Closing (codes "pre" ∷ codes "details" ∷ tags) rest
    → Closing tags (codes "<details>\n" ++ (summary_html is_first at ++ rest))
fold_begins is_first at rest tags ready =
    let closing = summary_closes is_first at rest (codes "details" ∷ tags) ready in
    (begin (codes "details") (inside (saying (plainly (codes "\n") refl) closing)))

begins : (is_first : Bool) (at : ℕ) (rest : List ℕ) (tags : List (List ℕ)) → Closing (codes "pre" ∷ codes "details" ∷ tags) rest
    → Closing tags (behind (codes "<details>\n" ∷ summary_html is_first at ∷ []) rest)
unfolding behind
begins is_first at rest tags ready = fold_begins is_first at rest tags ready

ends_and_begins : (is_first : Bool) (at : ℕ) (rest : List ℕ) (tags : List (List ℕ)) → Closing (codes "pre" ∷ codes "details" ∷ tags) rest
    → Closing (codes "pre" ∷ codes "details" ∷ tags)
    (behind (codes "</pre>\n</details>\n" ∷ codes "<details>\n" ∷ summary_html is_first at ∷ []) rest)
unfolding behind
ends_and_begins is_first at rest tags ready =
    let closing = fold_begins is_first at rest tags ready in
    (closed (codes "pre") (saying (plainly (codes "\n") refl) (closed (codes "details")
    (saying (plainly (codes "\n") refl) closing))))

fold_closes : (last : Option ℕ) (has : Bool) (at : ℕ) (rest : List ℕ) (tags : List (List ℕ)) → Closing (codes "pre" ∷ codes "details" ∷ tags) rest
    → Closing (folded last tags) (fold_with last has at ++ rest)
unfolding folded
fold_closes None has at rest tags ready =
    subst (Closing tags) (all_behind (codes "<details>\n" ∷ summary_html (not has) at ∷ []) rest)
    (begins (not has) at rest tags ready)
fold_closes (Some last) has at rest tags ready = elim (cases_Bool (last == at)) [
  | inl is ↦ rw (is) ready
  | inr isnt ↦
      rw (isnt)
      (subst (Closing (codes "pre" ∷ codes "details" ∷ tags))
      (all_behind (codes "</pre>\n</details>\n" ∷ codes "<details>\n" ∷ summary_html (not has) at ∷ []) rest)
      (ends_and_begins (not has) at rest tags ready))
]

last_of : (rows : List EntryRow) (row : EntryRow) → last_month (rows ++ row ∷ []) ≡ Some (month_in row)
last_of [] row = refl
last_of (first ∷ []) row = refl
last_of (first ∷ next ∷ rows) row = last_of (next ∷ rows) row

piece_closes : (range : Range) (before : List EntryRow) (row : EntryRow) (rest : List ℕ) (tags : List (List ℕ))
    → Closing (folded (last_month (rows_within range (before ++ row ∷ []))) tags) rest
    → Closing (folded (last_month (rows_within range before)) tags) (entry_piece range before row ++ rest)
unfolding folded
piece_closes range before row rest tags closing =
    let split = filter-append (λ (r : EntryRow). is_within range (day_of_row r)) before (row ∷ []) in
    elim (cases_Bool (is_within range (day_of_row row))) [
      | inl is ↦
          let behind_it : rows_within range (before ++ row ∷ []) ≡ rows_within range before ++ row ∷ [] = rw (is) at split in
          let ready : Closing (codes "pre" ∷ codes "details" ∷ tags) rest =
          subst (λ (last : Option ℕ). Closing (folded last tags) rest) (ap last_month behind_it ∙ last_of (rows_within range before) row) closing in
          rw (is)
          (subst (Closing (folded (last_month (rows_within range before)) tags))
          (sym (append_assoc (fold_front (rows_within range before) (month_in row)) (entry_row_html row) rest))
          (fold_closes (last_month (rows_within range before)) (has_month (month_in row) (rows_within range before)) (month_in row) _ tags
          (more (entry_row_html row) (entry_balanced row) ready)))
      | inr isnt ↦
          let same : rows_within range (before ++ row ∷ []) ≡ rows_within range before = (rw (isnt) at split) ∙ append-nil (rows_within range before) in
          rw (isnt) (subst (λ (rows : List EntryRow). Closing (folded (last_month rows) tags) rest) same closing)
    ]

entries_close : (range : Range) (before rows : List EntryRow) (rest : List ℕ) (tags : List (List ℕ))
    → Closing (folded (last_month (rows_within range (before ++ rows))) tags) rest
    → Closing (folded (last_month (rows_within range before)) tags) (pieces_behind (entry_piece range) before rows ++ rest)
entries_close range before [] rest tags closing =
    subst (λ (rows : List EntryRow). Closing (folded (last_month (rows_within range rows)) tags) rest) (append-nil before) closing
entries_close range before (row ∷ rows) rest tags closing =
    let later =
    entries_close range (before ++ row ∷ []) rows rest tags
    (subst (λ (all : List EntryRow). Closing (folded (last_month (rows_within range all)) tags) rest) (sym (append_assoc before (row ∷ []) rows)) closing) in
    subst (Closing (folded (last_month (rows_within range before)) tags))
    (sym (append_assoc (entry_piece range before row) (pieces_behind (entry_piece range) (before ++ row ∷ []) rows) rest))
    (piece_closes range before row _ tags later)

end_closes : (last : Option ℕ)
    → Closing (folded last (codes "section" ∷ codes "main" ∷ codes "body" ∷ codes "html" ∷ []))
    (all_of (entries_end last ∷ part_end ∷ codes "</main>\n</body>\n</html>\n" ∷ []))
unfolding folded
end_closes None =
    (begin (codes "p") (inside (saying (plainly (codes "No entries") refl) (closed (codes "p")
    (saying (plainly (codes "\n") refl) (closed (codes "section") (saying (plainly (codes "\n") refl)
    (closed (codes "main") (saying (plainly (codes "\n") refl) (closed (codes "body")
    (saying (plainly (codes "\n") refl) (closed (codes "html") (saying (plainly (codes "\n") refl) done)))))))))))))
end_closes (Some last) =
    (closed (codes "pre") (saying (plainly (codes "\n") refl) (closed (codes "details")
    (saying (plainly (codes "\n") refl) (closed (codes "section") (saying (plainly (codes "\n") refl)
    (closed (codes "main") (saying (plainly (codes "\n") refl) (closed (codes "body")
    (saying (plainly (codes "\n") refl) (closed (codes "html") (saying (plainly (codes "\n") refl) done))))))))))))

journal_closes : (range : Range) (rows : List EntryRow)
    → Closing (codes "section" ∷ codes "main" ∷ codes "body" ∷ codes "html" ∷ []) (journal_html range rows)
unfolding folded
journal_closes range rows =
    entries_close range [] rows (journal_end range rows) (codes "section" ∷ codes "main" ∷ codes "body" ∷ codes "html" ∷ [])
    (end_closes (last_month (rows_within range rows)))

-- ---- the page

front_0 : (name rest : List ℕ) → Closing (codes "html" ∷ []) rest
    → Closing []
    (behind
    (front_begin ∷ escaped (encode_of standard (sha256 style)) ∷ viewport ∷ escaped name ∷ codes "</title>\n<style>" ∷ style ∷ codes "</style>\n</head>\n" ∷ [])
    rest)
unfolding behind
front_0 name rest closing =
    (begin (codes "html") (attribute (codes "lang") (value (plainly (codes "en") refl) (quoted (inside
    (saying (plainly (codes "\n") refl) (begin (codes "head") (inside (saying (plainly (codes "\n") refl)
    (begin (codes "meta") (attribute (codes "charset") (value (plainly (codes "utf-8") refl) (quoted
    (alone meta (saying (plainly (codes "\n") refl) (begin (codes "meta") (attribute (codes "http-equiv")
    (value (plainly (codes "Content-Security-Policy") refl) (quoted (attribute (codes "content")
    (value (plainly (codes "default-src 'none'; style-src 'sha256-") refl)
    (value (says (encode_of standard (sha256 style))) (value (plainly (codes "'") refl) (quoted (alone meta
    (saying (plainly (codes "\n") refl) (begin (codes "meta") (attribute (codes "name")
    (value (plainly (codes "viewport") refl) (quoted (attribute (codes "content")
    (value (plainly (codes "width=device-width, initial-scale=1") refl) (quoted (alone meta
    (saying (plainly (codes "\n") refl) (begin (codes "title") (inside (saying (says name)
    (closed (codes "title") (saying (plainly (codes "\n") refl) (begin (codes "style") (inside
    (saying (plainly style refl) (closed (codes "style") (saying (plainly (codes "\n") refl)
    (closed (codes "head") (saying (plainly (codes "\n") refl) closing)))))))))))))))))))))))))))))))))))))))))))))))

front_closes : (name rest : List ℕ) → Closing (codes "html" ∷ []) rest → Closing [] (front_html name ++ rest)
front_closes name rest closing =
    subst (Closing [])
    (all_behind
    (front_begin ∷ escaped (encode_of standard (sha256 style)) ∷ viewport ∷ escaped name ∷ codes "</title>\n<style>" ∷ style ∷ codes "</style>\n</head>\n" ∷ [])
    rest)
    (front_0 name rest closing)

body_0 : (rest : List ℕ) → Closing (codes "body" ∷ codes "html" ∷ []) rest → Closing (codes "html" ∷ []) (codes "<body>\n" ++ rest)
body_0 rest closing = begin (codes "body") (inside (saying (plainly (codes "\n") refl) closing))

main_0 : (rest : List ℕ) → Closing (codes "main" ∷ codes "body" ∷ codes "html" ∷ []) rest
    → Closing (codes "body" ∷ codes "html" ∷ []) (codes "<main>\n" ++ rest)
main_0 rest closing = begin (codes "main") (inside (saying (plainly (codes "\n") refl) closing))

sales_front : (rest : List ℕ) → Closing (codes "section" ∷ codes "main" ∷ codes "body" ∷ codes "html" ∷ []) rest
    → Closing (codes "main" ∷ codes "body" ∷ codes "html" ∷ []) (part_front (codes "sales") (codes "Sales") ++ rest)
sales_front rest closing =
    (begin (codes "section") (attribute (codes "id") (value (plainly (codes "sales") refl) (quoted (inside
    (saying (plainly (codes "\n") refl) (begin (codes "h2") (inside (saying (plainly (codes "Sales") refl)
    (closed (codes "h2") (saying (plainly (codes "\n") refl) closing)))))))))))

journal_front : (rest : List ℕ) → Closing (codes "section" ∷ codes "main" ∷ codes "body" ∷ codes "html" ∷ []) rest
    → Closing (codes "main" ∷ codes "body" ∷ codes "html" ∷ []) (part_front (codes "journal") (codes "Journal") ++ rest)
journal_front rest closing =
    (begin (codes "section") (attribute (codes "id") (value (plainly (codes "journal") refl) (quoted (inside
    (saying (plainly (codes "\n") refl) (begin (codes "h2") (inside (saying (plainly (codes "Journal") refl)
    (closed (codes "h2") (saying (plainly (codes "\n") refl) closing)))))))))))

pub page_balanced : (page : PageOf) (parts : Parts) (text : List ℕ) → IsTextOf page parts text → IsBalanced text
unfolding behind
page_balanced page parts text is_text =
    let top = is_text.is_top in
    let range = days_of page in
    let outer = codes "main" ∷ codes "body" ∷ codes "html" ∷ [] in
    let journal_part = journal_closes range parts.listed in
    let rest : Closing outer (part_front (codes "journal") (codes "Journal") ++ (journal_html range parts.listed ++ [])) =
    journal_front _ (subst (Closing (codes "section" ∷ outer)) (sym (append-nil (journal_html range parts.listed))) journal_part) in
    let sales = sales_close parts.sales _ outer rest in
    let behind_top =
    front_closes page.name _
    (body_0 _
    (more (header_html page parts) (header_balanced page.name _ parts.digest (days_said (covered page parts.entries) _ _))
    (main_0 _
    (more top.years (years_balanced parts.years parts.currencies top.years top.are_years)
    (more (commodities_html parts.commodities parts.currencies) (commodities_balanced parts.commodities parts.currencies)
    (more (held_html page parts.held parts.totals) (held_balanced page parts.held parts.totals)
    (more top.months (months_balanced parts.range parts.months top.months top.are_months) (sales_front _ sales)))))))) in
    is_balanced text
    (subst (Closing [])
    (sym
    (is_text.whole
    ∙ ap (λ (t : List ℕ). t ++ (sales_html parts.sales ++ (part_front (codes "journal") (codes "Journal") ++ (journal_html range parts.listed ++ [])))) top.whole
    ∙ sym
    (all_behind
    (front_html page.name ∷ codes "<body>\n" ∷ header_html page parts ∷ codes "<main>\n" ∷ top.years
    ∷ commodities_html parts.commodities parts.currencies ∷ held_html page parts.held parts.totals ∷ top.months
    ∷ part_front (codes "sales") (codes "Sales") ∷ [])
    (sales_html parts.sales ++ (part_front (codes "journal") (codes "Journal") ++ (journal_html range parts.listed ++ []))))))
    behind_top)
