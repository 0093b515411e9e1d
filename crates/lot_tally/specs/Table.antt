-- The table of what sales gained by keys: its lines, and what is kept of it (docs/FORMATS.md, Gains
-- by keys).
use Rattle.std.specs.Prelude.{◌≡◌, ℕ, ℤ, Bool, ◌&&◌, nat_lt, if◌then◌else◌, List, [], ◌∷◌, ◌++◌, map, flat_map, filter, codes, decimal, String}
use Rattle.std.specs.BTreeMap.{BTreeMap}
use Rattle.std.specs.String.{string_bytes}
use Rattle.std.specs.declared.cmp.Ordering.{Ordering}
use Rattle.lot_num.specs.AmountText.{amount_text}
use Rattle.lot_num.specs.Sum.{sum_of}
use Rattle.lot_base.specs.Text.{same_text}
use Rattle.lot_book.specs.Sale.{AreLegsOf, SaleParts}
use Rattle.lot_csv.specs.Record.{field_text, others_text}
use Rattle.lot_report.specs.Gains.{amounts_in, amounts_of, gained}
use Rattle.lot_report.specs.Gains as gains
use Rattle.lot_report.specs.Printed.{line, total_of}
use Rattle.lot_report.specs.Report.{AreSums, EachFits}
use Rattle.lot_tally.specs.Lots.{CountedLot, RowKey, all_lots, key_name, sale_lots}
use Rattle.lot_tally.specs.Rows.{AreRows, lots_fit, row_cmp}
use Rattle.lot_tally.specs.declared.counted.Counted.{Counted}
use Rattle.lot_tally.specs.declared.key.GainKey.{GainKey}
use Rattle.lot_tally.specs.declared.key.TableForm.{TableForm}
use Rattle.lot_tally.specs.declared.key.TableForm.TheVariants.{Text, Csv}
use Rattle.lot_tally.specs.declared.sums.RowSums.{RowSums}
use Rattle.lot_tally.specs.declared.table.GainsTable.{GainsTable}

-- ---- texts

-- the line of the lots of a row that have a gain
abbrev pub priced_line : TableForm → RowKey → RowSums → List ℕ
priced_line Text row sums =
    row.0 ++ row.1 ++ codes " lots " ++ decimal sums.priced_lots ++ codes " proceeds " ++ amount_text 2 16 sums.proceeds
    ++ codes " cost " ++ amount_text 2 16 sums.cost ++ codes " gain " ++ amount_text 2 16 sums.gain ++ 10 ∷ []
priced_line Csv row sums =
    row.0 ++ field_text row.1
    ++ others_text
    (decimal sums.priced_lots ∷ amount_text 2 16 sums.proceeds ∷ amount_text 2 16 sums.cost ∷ amount_text 2 16 sums.gain ∷ [])
    ++ 10 ∷ []

-- the line of those that have none
abbrev pub unpriced_line : TableForm → RowKey → RowSums → List ℕ
unpriced_line Text row sums =
    row.0 ++ row.1 ++ codes " lots " ++ decimal sums.unpriced_lots ++ codes " cost " ++ amount_text 2 16 sums.unpriced_cost
    ++ codes " unpriced" ++ 10 ∷ []
unpriced_line Csv row sums =
    row.0 ++ field_text row.1
    ++ others_text (decimal sums.unpriced_lots ∷ [] ∷ amount_text 2 16 sums.unpriced_cost ∷ [] ∷ [])
    ++ 10 ∷ []

-- a line of some lots, where there are any
abbrev pub unless_none : ℕ → List ℕ → List ℕ
unless_none lots text = if nat_lt 0 lots then text else []

-- the lines of a row
abbrev pub row_text : TableForm → RowKey × RowSums → List ℕ
row_text form row =
    unless_none row.1.priced_lots (priced_line form row.0 row.1)
    ++ unless_none row.1.unpriced_lots (unpriced_line form row.0 row.1)

-- the line with the names of the columns
abbrev pub header : List GainKey → List ℕ
header by =
    flat_map (λ (key : GainKey). key_name key ++ 44 ∷ []) by ++ codes "currency,lots,proceeds,cost,gain\n"

-- a text has the rows, and behind them what all sales gained in each currency; or it says that there
-- are none
abbrev pub text_lines : List (RowKey × RowSums) → List (List ℕ × ℤ) → List (List ℕ)
text_lines [] totals = line (codes "no gains") ∷ []
text_lines (row ∷ rows) totals =
    map (row_text Text) (row ∷ rows) ++ map (λ (total : List ℕ × ℤ). total_of (codes "gain") total.0 total.1) totals

abbrev pub table_lines : List GainKey → TableForm → List (RowKey × RowSums) → List (List ℕ × ℤ) → List (List ℕ)
table_lines by Text rows totals = text_lines rows totals
table_lines by Csv rows totals = header by ∷ map (row_text Csv) rows

-- the table of sales, which stands behind the last of them; nothing is written at a sale
abbrev pub IsEnd : List GainKey → TableForm → List SaleParts → List (List ℕ) → Type 0
IsEnd by form sales end =
    (rows : List (RowKey × RowSums)) × AreRows (all_lots by form sales) rows
    × (totals : List (List ℕ × ℤ)) × AreSums (amounts_of sales) totals
    × (end ≡ table_lines by form rows totals)

-- ---- sales that are fed one by one

-- whether all sums to which a sale adds stay in range, behind the sales before it: those of rows,
-- lot by lot, and its total
abbrev pub fits : List GainKey → TableForm → List SaleParts → SaleParts → Bool
fits by form before sale = lots_fit (all_lots by form before) (sale_lots by form sale) && gains.fits before sale

-- the rows as they are kept
abbrev pub seen : {A : Type 0} → String A × List ℕ → RowKey
seen key = (string_bytes key.0, key.1)

abbrev pub shown : {A : Type 0} → (String A × List ℕ) × RowSums → RowKey × RowSums
shown row = (seen row.0, row.1)

abbrev pub kept_cmp : {A : Type 0} → String A × List ℕ → String A × List ℕ → Ordering
kept_cmp a b = row_cmp (seen a) (seen b)

abbrev pub HasRows : {A : Type 0} → List CountedLot → BTreeMap (String A × List ℕ) RowSums → Type 0
HasRows lots rows = AreRows lots (map shown rows.entries)

-- what is kept of lots and sales
abbrev pub HasCounted : List CountedLot → List SaleParts → Counted → Type 0
HasCounted lots sales counted = HasRows lots counted.rows × AreSums (amounts_of sales) counted.totals.sums.entries

-- a table by these keys, in that form, that has taken these sales and no other, whose sums all
-- stayed in range
abbrev pub IsTable : List GainKey → TableForm → List SaleParts → GainsTable → Type 0
IsTable by form sales table =
    (table.by.now ≡ by) × (table.form ≡ form) × EachFits (fits by form) [] sales
    × HasCounted (all_lots by form sales) sales table.counted

-- ---- laws

-- the legs of a sale add up to its units, as those of each sale of a book do
abbrev pub HasOwnLegs : SaleParts → Type 0
HasOwnLegs sale = AreLegsOf sale.units sale.legs

-- what the rows in a currency gained
abbrev pub gain_in_rows : List ℕ → List (RowKey × RowSums) → ℤ
gain_in_rows currency rows =
    sum_of (map (λ (row : RowKey × RowSums). row.1.gain) (filter (λ (row : RowKey × RowSums). same_text currency row.0.1) rows))
