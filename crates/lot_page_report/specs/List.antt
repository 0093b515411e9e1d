-- Lists of rows that are written row by row (docs/FORMATS.md, Page).
use Rattle.std.specs.Prelude.{◌≡◌, ℕ, List, [], ◌++◌, Option, Result, Ok, Err}
use Rattle.std.specs.Io.KnownBytes.{Appends}
use Rattle.lot_book_report.specs.declared.fault.ShowFault.{ShowFault}
use Rattle.lot_book_report.specs.declared.fault.ShowFault.TheVariants.{Row as AtRow, Walk as AtWalk}
use Rattle.lot_page_report.specs.Sections.{pieces_behind}

-- what is written of rows, and what stands behind them
abbrev pub list_text : {Row : Type 0} → (List Row → Row → List ℕ) → (List Row → List ℕ) → List Row → List ℕ
list_text piece end_of rows = pieces_behind piece [] rows ++ end_of rows

-- The list of these rows is written. Where the book stops, or memory ends, some first rows of it are, each whole, and nothing behind
-- them; where the writer fails, a prefix of it is.
abbrev pub ListsRows : {Row : Type 0} → (List Row → Row → List ℕ) → (List Row → List ℕ) → List Row → Option (List ℕ) → Option (List ℕ)
    → Result (Unit {0}) ShowFault → Type 0
ListsRows {Row} piece end_of rows start now (Ok done) = Appends start now (list_text piece end_of rows)
ListsRows {Row} piece end_of rows start now (Err (AtWalk fault)) =
    (given : List Row) × (rest : List Row) × (rows ≡ given ++ rest) × Appends start now (pieces_behind piece [] given)
ListsRows {Row} piece end_of rows start now (Err (AtRow fault)) =
    (part : List ℕ) × (rest : List ℕ) × (list_text piece end_of rows ≡ part ++ rest) × Appends start now part

-- that of some rows is
abbrev pub Lists : {Row : Type 0} → (List Row → Row → List ℕ) → (List Row → List ℕ) → Option (List ℕ) → Option (List ℕ)
    → Result (Unit {0}) ShowFault → Type 0
Lists {Row} piece end_of start now result = (rows : List Row) × ListsRows piece end_of rows start now result
