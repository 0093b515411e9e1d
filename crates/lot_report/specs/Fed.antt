-- Reports that are fed row by row: what a writer holds of one after each row, and after its end.
use Rattle.std.specs.Prelude.{◌≡◌, ℕ, Bool, not, IsTrue, List, [], ◌∷◌, ◌++◌, flat_map, Option, IfSome, Result, Ok, Err}
use Rattle.std.specs.Io.KnownBytes.{Appends}
use Rattle.lot_report.specs.declared.fault.ReportFault.{ReportFault}
use Rattle.lot_report.specs.declared.fault.ReportFault.TheVariants.{Range, Write, Memory}
use Rattle.lot_report.specs.declared.fault.RowFault.{RowFault}
use Rattle.lot_report.specs.declared.fault.RowFault.TheVariants.{Report, Spent}
use Rattle.lot_report.specs.Report.{EachFits}
use Rattle.lot_report.specs.Written.{AppendsPrefix, IsProperPrefixOf}

-- ---- Texts.

abbrev pub joined : List (List ℕ) → List ℕ
joined lines = flat_map (λ (text : List ℕ). text) lines

-- rows one behind another, each as its lines
abbrev pub text_of : {Row : Type 0} → (Row → List (List ℕ)) → List Row → List ℕ
text_of lines rows = flat_map (λ row. joined (lines row)) rows

-- some of the lines, but not all, each of them whole
abbrev pub AreLinesBefore : List (List ℕ) → List ℕ → Type 0
AreLinesBefore lines text =
    (before : List (List ℕ)) × (next : List ℕ) × (after : List (List ℕ)) × (lines ≡ before ++ next ∷ after) × (text ≡ joined before)

-- the whole report: rows with whose totals all stay in range, and the lines that stand behind them
abbrev pub IsWhole : {Row : Type 0} → (Row → List (List ℕ)) → (List Row → Row → Bool) → (List Row → List (List ℕ) → Type 0)
    → List Row → List ℕ → Type 0
IsWhole lines fits IsEnd rows text =
    EachFits fits [] rows × (end : List (List ℕ)) × IsEnd rows end × (text ≡ text_of lines rows ++ joined end)

-- ---- Of one row, what is kept of it and what is written.

-- what becomes of the totals with one more row: it fits, or it doesn't, or it fits and there is no memory for a total
abbrev pub CountsRow : {Row Kept : Type 0} → (List Row → Row → Bool) → (List Row → Kept → Type 0)
    → List Row → Row → Kept → Result (Unit {0}) ReportFault → Type 0
CountsRow fits HasTaken rows row kept (Ok done) = IsTrue (fits rows row) × HasTaken (rows ++ row ∷ []) kept
CountsRow fits HasTaken rows row kept (Err Range) = IsTrue (not (fits rows row))
CountsRow fits HasTaken rows row kept (Err Write) = ⊥
CountsRow fits HasTaken rows row kept (Err Memory) = IsTrue (fits rows row)

-- What is kept of a row, and what is written. A row that fits is kept, and all of it is written. Of a row that doesn't fit,
-- nothing is written. Out of memory, whole lines of a row that fits are written, but not all; where the writer fails, a prefix
-- of it is, but not all of it.
abbrev pub TakesRow : {Row Kept : Type 0} → (Row → List (List ℕ)) → (List Row → Row → Bool) → (List Row → Kept → Type 0)
    → List Row → Row → Kept → Option (List ℕ) → Option (List ℕ) → Result (Unit {0}) ReportFault → Type 0
TakesRow lines fits HasTaken rows row kept old new (Ok done) =
    IsTrue (fits rows row) × HasTaken (rows ++ row ∷ []) kept × Appends old new (joined (lines row))
TakesRow lines fits HasTaken rows row kept old new (Err Range) = IsTrue (not (fits rows row)) × Appends old new []
TakesRow lines fits HasTaken rows row kept old new (Err Write) = IsTrue (fits rows row) × AppendsPrefix old new (joined (lines row))
TakesRow lines fits HasTaken rows row kept old new (Err Memory) =
    IsTrue (fits rows row) × (part : List ℕ) × AreLinesBefore (lines row) part × Appends old new part

-- ---- Of all rows so far.

-- these rows were taken and no other, and their totals stay in range; after a fault nothing is kept
abbrev pub IsFed : {Row Kept : Type 0} → (List Row → Row → Bool) → (List Row → Kept → Type 0) → List Row → Option Kept → Type 0
IsFed fits HasTaken rows kept = EachFits fits [] rows × IfSome kept (λ (some : _). HasTaken rows some)

-- What a writer holds of a report that began at a place, after one more row. It is the rows with this one, where nothing
-- fails. Where a total leaves the range, it is the rows before. Out of memory, whole lines of the row follow these, but not
-- all; where the writer fails, a prefix of its lines does, but not all of them. After a fault nothing more is written.
abbrev pub GrowsByRow : {Row Kept : Type 0} → (Row → List (List ℕ)) → (List Row → Row → Bool) → (List Row → Kept → Type 0)
    → List Row → Row → Option Kept → Option (List ℕ) → Option (List ℕ) → Result (Unit {0}) RowFault → Type 0
GrowsByRow lines fits HasTaken rows row kept start now (Ok done) =
    IsTrue (fits rows row) × IsFed fits HasTaken (rows ++ row ∷ []) kept × Appends start now (text_of lines (rows ++ row ∷ []))
GrowsByRow lines fits HasTaken rows row kept start now (Err (Report Range)) =
    IsTrue (not (fits rows row)) × Appends start now (text_of lines rows)
GrowsByRow lines fits HasTaken rows row kept start now (Err (Report Write)) =
    IsTrue (fits rows row)
    × (part : List ℕ) × IsProperPrefixOf part (joined (lines row)) × Appends start now (text_of lines rows ++ part)
GrowsByRow lines fits HasTaken rows row kept start now (Err (Report Memory)) =
    IsTrue (fits rows row)
    × (part : List ℕ) × AreLinesBefore (lines row) part × Appends start now (text_of lines rows ++ part)
GrowsByRow lines fits HasTaken rows row kept start now (Err Spent) = Appends start now (text_of lines rows)

-- The same at the end of the report. It is the whole report, where nothing fails. Out of memory, all rows are there, and whole
-- lines of what stands behind them, but not all; where the writer fails, a prefix of these lines, but not all of them. After a
-- fault nothing more is written.
abbrev pub EndsReport : {Row : Type 0} → (Row → List (List ℕ)) → (List Row → Row → Bool) → (List Row → List (List ℕ) → Type 0)
    → List Row → Option (List ℕ) → Option (List ℕ) → Result (Unit {0}) RowFault → Type 0
EndsReport lines fits IsEnd rows start now (Ok done) = (text : List ℕ) × IsWhole lines fits IsEnd rows text × Appends start now text
EndsReport lines fits IsEnd rows start now (Err (Report Range)) = ⊥
EndsReport lines fits IsEnd rows start now (Err (Report Write)) =
    (end : List (List ℕ)) × IsEnd rows end
    × (part : List ℕ) × IsProperPrefixOf part (joined end) × Appends start now (text_of lines rows ++ part)
EndsReport lines fits IsEnd rows start now (Err (Report Memory)) =
    (end : List (List ℕ)) × IsEnd rows end
    × (part : List ℕ) × AreLinesBefore end part × Appends start now (text_of lines rows ++ part)
EndsReport lines fits IsEnd rows start now (Err Spent) = Appends start now (text_of lines rows)
