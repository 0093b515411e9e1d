-- The journal of a book, written as its entries are read (docs/FORMATS.md, Journal).
use Rattle.std.specs.Prelude.{◌≡◌, ℕ, List, ◌∷◌, ◌++◌, OnOk, Option, Result, Ok, Err, codes, decimal, flat_map}
use Rattle.std.specs.Io.KnownBytes.{Appends}
use Rattle.lot_report.specs.Printed.{line}
use Rattle.lot_report.specs.Written.{IsProperPrefixOf}
use Rattle.lot_report.specs.declared.fault.ReportFault.TheVariants as report
use Rattle.lot_report.specs.declared.fault.RowFault.TheVariants.{Report, Spent}
use Rattle.lot_rows.specs.Tables.{Tables}
use Rattle.lot_rows.specs.declared.entry.EntryRow.{EntryRow}
use Rattle.lot_book_report.specs.declared.fault.ShowFault.{ShowFault}
use Rattle.lot_book_report.specs.declared.fault.ShowFault.TheVariants.{Row as AtRow, Walk as AtWalk}
use Rattle.lot_store.specs.declared.walk.WalkFault.TheVariants.{Ended, Failed}

-- the line above a command, with its number and its key, and its text
abbrev pub row_text : EntryRow → List ℕ
row_text row = line (codes "; entry " ++ decimal row.number ++ codes " key " ++ row.source ++ codes " " ++ row.name) ++ row.body

abbrev pub journal_text : List EntryRow → List ℕ
journal_text rows = flat_map row_text rows

-- All entries are written. Where the book stops, those before that entry are, and nothing else; where the writer fails, a
-- prefix of the next one, too, but not all of it.
abbrev pub ShowsJournal : List EntryRow → Option (List ℕ) → Option (List ℕ) → Result (Unit {0}) ShowFault → Type 0
ShowsJournal all start now (Ok done) = Appends start now (journal_text all)
ShowsJournal all start now (Err (AtWalk (Failed fault))) =
    (given : List EntryRow) × (rest : List EntryRow) × (all ≡ given ++ rest) × Appends start now (journal_text given)
ShowsJournal all start now (Err (AtWalk Ended)) = ⊥
ShowsJournal all start now (Err (AtRow (Report report.Write))) =
    (given : List EntryRow) × (row : EntryRow) × (rest : List EntryRow) × (all ≡ given ++ row ∷ rest)
    × (part : List ℕ) × IsProperPrefixOf part (row_text row) × Appends start now (journal_text given ++ part)
ShowsJournal all start now (Err (AtRow (Report report.Range))) = ⊥
ShowsJournal all start now (Err (AtRow (Report report.Memory))) = ⊥
ShowsJournal all start now (Err (AtRow Spent)) = ⊥

-- whatever the tables are, the journal of some entries is written, or as much of it as its fault leaves
abbrev pub ShowsSomeJournal : Option (List ℕ) → Option (List ℕ) → Result (Unit {0}) ShowFault → Type 0
ShowsSomeJournal start now result = (rows : List EntryRow) × ShowsJournal rows start now result

-- where no fault ends it, the journal is that of all rows of the table
abbrev pub ShowsAllEntries : Tables → Option (List ℕ) → Option (List ℕ) → Result (Unit {0}) ShowFault → Type 0
ShowsAllEntries tables start now result = OnOk result (Appends start now (journal_text tables.entry))

-- ---- what is heard of it

-- what was heard before is heard still, and this text behind it
abbrev pub HearsMore : (List ℕ → Type 0) → (List ℕ → Type 0) → List ℕ → Type 0
HearsMore Was Is text = (before : List ℕ) → Was before → Is (before ++ text)

-- the journal is written, and where it is whole, its text is heard
abbrev pub ShowsHeard : (List ℕ → Type 0) → List EntryRow → Option (List ℕ) → Option (List ℕ) → Result (Unit {0}) ShowFault → Type 0
ShowsHeard Heard all start now result = ShowsJournal all start now result × OnOk result (Heard (journal_text all))

abbrev pub ShowsSomeHeard : (List ℕ → Type 0) → Option (List ℕ) → Option (List ℕ) → Result (Unit {0}) ShowFault → Type 0
ShowsSomeHeard Heard start now result = (rows : List EntryRow) × ShowsHeard Heard rows start now result

abbrev pub ShowsAllHeard : (List ℕ → Type 0) → Tables → Option (List ℕ) → Option (List ℕ) → Result (Unit {0}) ShowFault → Type 0
ShowsAllHeard Heard tables start now result =
    OnOk result (Appends start now (journal_text tables.entry) × Heard (journal_text tables.entry))
