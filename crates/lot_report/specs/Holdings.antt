-- The report of what is held: its rows, and what the lots cost and are worth in each currency (docs/FORMATS.md, Holdings).
use Rattle.std.specs.Prelude.{◌≡◌, ◌⊎◌, Result, Ok, Err, ℕ, Bool, true, false, not, is_none, IsTrue, ◌&&◌, List, [], ◌∷◌, ◌++◌, map, flat_map, Option, None, Some, ℤ, pos, ◌*ℤ◌, codes}
use Rattle.std.specs.Io.KnownBytes.{Appends}
use Rattle.lot_cost.specs.declared.lot_key.LotKey.{LotKey}
use Rattle.lot_book.specs.declared.holding.Holding.{Holding}
use Rattle.lot_report.specs.declared.fault.ReportFault.{ReportFault}
use Rattle.lot_report.specs.declared.fault.ReportFault.TheVariants.{Range, Write, Memory}
use Rattle.lot_report.specs.declared.fault.RowFault.{RowFault}
use Rattle.lot_report.specs.declared.holdings.Holdings.{Holdings}
use Rattle.lot_report.specs.declared.holdings.HoldingSums.{HoldingSums}
use Rattle.lot_report.specs.declared.holdings.ValuedHolding.{ValuedHolding}
use Rattle.lot_report.specs.declared.lot.Valuation.{Valuation}
use Rattle.lot_report.specs.declared.lot.Valuation.TheVariants.{Unasked}
use Rattle.lot_report.specs.declared.totals.Totals.{Totals}
use Rattle.lot_report.specs.Fed.{CountsRow, EndsReport, GrowsByRow, IsWhole, TakesRow, joined, text_of}
use Rattle.lot_report.specs.Fed as fed
use Rattle.lot_report.specs.Printed.{line, lot_row, plain_row, price_of, total_of}
use Rattle.lot_report.specs.Report.{AreSums, EachFits, is_nil, stay_wide}
use Rattle.lot_report.specs.Written.{AppendsPrefix}

-- ---- Costs and values.

-- what the units of a row cost, in which currency; plain units have no cost
abbrev pub cost_of : Option LotKey → ℤ → List (List ℕ × ℤ)
cost_of None units = []
cost_of (Some lot) units = (lot.currency, units *ℤ pos lot.number) ∷ []

abbrev pub costs_of : List ValuedHolding → List (List ℕ × ℤ)
costs_of rows = flat_map (λ (row : ValuedHolding). cost_of row.holding.lot row.holding.units) rows

-- what the units of a lot are worth at a price, in the currency of the lot; nothing without one
abbrev pub value_at : Option ℕ → LotKey → ℤ → List (List ℕ × ℤ)
value_at None lot units = []
value_at (Some price) lot units = (lot.currency, units *ℤ pos price) ∷ []

-- the same of a row; plain units have no value, whatever their valuation
abbrev pub value_of : Option LotKey → Valuation → ℤ → List (List ℕ × ℤ)
value_of None valuation units = []
value_of (Some lot) valuation units = value_at (price_of valuation) lot units

abbrev pub values_of : List ValuedHolding → List (List ℕ × ℤ)
values_of rows = flat_map (λ (row : ValuedHolding). value_of row.holding.lot row.valuation row.holding.units) rows

-- whether the totals to which a row adds are in range behind those before it: that of the costs, and that of the values
abbrev pub fits : List ValuedHolding → ValuedHolding → Bool
fits before row =
    stay_wide (costs_of (before ++ row ∷ [])) (cost_of row.holding.lot row.holding.units)
    && stay_wide (values_of (before ++ row ∷ [])) (value_of row.holding.lot row.valuation row.holding.units)

-- each of the rows fits behind those before it
abbrev pub AllFit : List ValuedHolding → List ValuedHolding → Type 0
AllFit before rows = EachFits fits before rows

-- ---- Texts.

-- the row of a holding, which is plain or in a lot
abbrev pub row_of : List ℕ → List ℕ → Option LotKey → Valuation → ℤ → List ℕ
row_of account commodity None valuation units = plain_row account commodity units
row_of account commodity (Some lot) valuation units = lot_row account commodity lot units valuation

abbrev pub holding_row : ValuedHolding → List ℕ
holding_row row = row_of row.holding.account row.holding.commodity row.holding.lot row.valuation row.holding.units

abbrev pub row_lines : ValuedHolding → List (List ℕ)
row_lines row = holding_row row ∷ []

abbrev pub rows_text : List ValuedHolding → List ℕ
rows_text rows = text_of row_lines rows

-- a line for the total in each currency, with the word that says of what it is
abbrev pub total_lines : List ℕ → List (List ℕ × ℤ) → List (List ℕ)
total_lines what totals = map (λ (total : List ℕ × ℤ). total_of what total.0 total.1) totals

-- what stands behind the rows: that there were none, or what the lots cost in each currency, and then what those with a
-- value are worth
abbrev pub end_lines : Bool → List (List ℕ × ℤ) → List (List ℕ × ℤ) → List (List ℕ)
end_lines true costs values = line (codes "nothing held") ∷ []
end_lines false costs values = total_lines (codes "cost") costs ++ total_lines (codes "value") values

abbrev pub IsEnd : List ValuedHolding → List (List ℕ) → Type 0
IsEnd rows end =
    (costs : List (List ℕ × ℤ)) × AreSums (costs_of rows) costs × (values : List (List ℕ × ℤ)) × AreSums (values_of rows) values
    × (end ≡ end_lines (is_nil rows) costs values)

-- the report of rows, where all totals stay in range
abbrev pub IsReport : List ValuedHolding → List ℕ → Type 0
IsReport rows text = IsWhole row_lines fits IsEnd rows text

-- ---- Reports that are fed row by row.

-- what a report keeps that has taken these rows and no other
abbrev pub HasTaken : List ValuedHolding → HoldingSums → Type 0
HasTaken rows progress =
    (progress.is_empty ≡ is_nil rows) × AreSums (costs_of rows) progress.costs.sums.entries × AreSums (values_of rows) progress.values.sums.entries

-- what becomes of the totals of costs and of values with more of both: all stay in range and are kept; or some total doesn't;
-- or all do, and there is no memory
abbrev pub CountsBoth : (costs values cost value : List (List ℕ × ℤ)) → Totals → Totals → Result (Unit {0}) ReportFault → Type 0
CountsBoth costs values cost value kept_costs kept_values (Ok done) =
    IsTrue (stay_wide (costs ++ cost) cost && stay_wide (values ++ value) value)
    × AreSums (costs ++ cost) kept_costs.sums.entries × AreSums (values ++ value) kept_values.sums.entries
CountsBoth costs values cost value kept_costs kept_values (Err Range) =
    IsTrue (not (stay_wide (costs ++ cost) cost && stay_wide (values ++ value) value))
CountsBoth costs values cost value kept_costs kept_values (Err Write) = ⊥
CountsBoth costs values cost value kept_costs kept_values (Err Memory) =
    IsTrue (stay_wide (costs ++ cost) cost && stay_wide (values ++ value) value)

-- what becomes of it with one more row
abbrev pub CountsHolding : List ValuedHolding → ValuedHolding → HoldingSums → Result (Unit {0}) ReportFault → Type 0
CountsHolding rows row progress result = CountsRow fits HasTaken rows row progress result

-- the same, and what is written of the row
abbrev pub TakesHolding : List ValuedHolding → ValuedHolding → HoldingSums → Option (List ℕ) → Option (List ℕ)
    → Result (Unit {0}) ReportFault → Type 0
TakesHolding rows row progress old new result = TakesRow row_lines fits HasTaken rows row progress old new result

-- whether a fault has ended the report
abbrev pub is_spent : Holdings → Bool
is_spent report = is_none report.progress

-- unless a fault has ended it, a report has taken these rows and no other, and their totals stay in range
abbrev pub IsFed : List ValuedHolding → Holdings → Type 0
IsFed rows report = fed.IsFed fits HasTaken rows report.progress

-- what a writer holds after one more row
abbrev pub GrowsByHolding : List ValuedHolding → ValuedHolding → Holdings → Option (List ℕ) → Option (List ℕ)
    → Result (Unit {0}) RowFault → Type 0
GrowsByHolding rows row report start now result = GrowsByRow row_lines fits HasTaken rows row report.progress start now result

-- what a writer holds after the end
abbrev pub EndsHoldings : List ValuedHolding → Option (List ℕ) → Option (List ℕ) → Result (Unit {0}) RowFault → Type 0
EndsHoldings rows start now result = EndsReport row_lines fits IsEnd rows start now result

-- ---- Reports of rows that are given at once.

-- rows of which no value is asked
abbrev pub unvalued_row : Holding → ValuedHolding
unvalued_row holding = record { holding = holding; valuation = Unasked }

abbrev pub unvalued : List Holding → List ValuedHolding
unvalued holdings = map (λ (holding : Holding). unvalued_row holding) holdings

-- the text of the rows before the first with which a total leaves the range
abbrev pub IsReportToFault : List ValuedHolding → List ℕ → Type 0
IsReportToFault rows text =
    (before : List ValuedHolding) × (row : ValuedHolding) × (after : List ValuedHolding)
    × AllFit [] before × IsTrue (not (fits before row)) × (rows ≡ before ++ row ∷ after) × (text ≡ rows_text before)

-- the first rows of all, each of which fits
abbrev pub AreFirstRows : List ValuedHolding → List ℕ → Type 0
AreFirstRows rows text =
    (before : List ValuedHolding) × (after : List ValuedHolding) × AllFit [] before × (rows ≡ before ++ after) × (text ≡ rows_text before)

-- all rows, and the first lines of the totals
abbrev pub AreRowsAndFirstTotals : List ValuedHolding → List ℕ → Type 0
AreRowsAndFirstTotals rows text =
    AllFit [] rows × (end : List (List ℕ)) × IsEnd rows end
    × (first : List (List ℕ)) × (rest : List (List ℕ)) × (end ≡ first ++ rest) × (text ≡ rows_text rows ++ joined first)

-- the first lines of the report, each of them whole
abbrev pub AreFirstLines : List ValuedHolding → List ℕ → Type 0
AreFirstLines rows text = AreFirstRows rows text ⊎ AreRowsAndFirstTotals rows text

-- the rows before one that fits
abbrev pub AreRowsBefore : List ValuedHolding → List ℕ → Type 0
AreRowsBefore rows text =
    (before : List ValuedHolding) × (row : ValuedHolding) × (after : List ValuedHolding)
    × AllFit [] before × IsTrue (fits before row) × (rows ≡ before ++ row ∷ after) × (text ≡ rows_text before)

-- what is kept of the report where memory ends: the rows before the one that it ended at, or all and the first totals
abbrev pub AreKeptLines : List ValuedHolding → List ℕ → Type 0
AreKeptLines rows text = AreRowsBefore rows text ⊎ AreRowsAndFirstTotals rows text

-- the first rows, or the whole report: what the writer failed to take all of
abbrev pub AreRowsOrReport : List ValuedHolding → List ℕ → Type 0
AreRowsOrReport rows text = AreFirstRows rows text ⊎ IsReport rows text

-- What is written of rows. It is the report, where nothing fails. Where a total leaves the range, it is the rows before the
-- one that takes it out. Where the writer fails, it is a prefix of the report, but not all of it; out of memory, whole lines
-- of the report.
abbrev pub WritesReport : List ValuedHolding → Option (List ℕ) → Option (List ℕ) → Result (Unit {0}) ReportFault → Type 0
WritesReport rows old new (Ok done) = (text : List ℕ) × IsReport rows text × Appends old new text
WritesReport rows old new (Err Range) = (text : List ℕ) × IsReportToFault rows text × Appends old new text
WritesReport rows old new (Err Write) = (text : List ℕ) × AreRowsOrReport rows text × AppendsPrefix old new text
WritesReport rows old new (Err Memory) = (text : List ℕ) × AreKeptLines rows text × Appends old new text
