-- The journal: the entries of a book as ledger text (docs/FORMATS.md, Journal).
use Rattle.std.specs.Prelude.{ℕ, List, [], ◌∷◌, ◌++◌, flat_map, Bool, Option, Result, Ok, Err, codes, decimal}
use Rattle.std.specs.String.{string_bytes}
use Rattle.std.specs.Io.KnownBytes.{Appends}
use Rattle.lot_report.specs.declared.journal.Entry.{Entry}
use Rattle.lot_report.specs.declared.journal.Journal.{Journal}
use Rattle.lot_report.specs.declared.journal.JournalFault.{JournalFault}
use Rattle.lot_report.specs.declared.journal.JournalFault.TheVariants.{Write, Spent}
use Rattle.lot_report.specs.Printed.{line}
use Rattle.lot_report.specs.Written.{IsProperPrefixOf}

-- ---- Texts.

-- the line above a command: its number and its key
abbrev pub heading : Entry → List ℕ
heading entry = line (codes "; entry " ++ decimal entry.number ++ codes " key " ++ entry.key.source ++ codes " " ++ entry.key.name)

abbrev pub entry_text : Entry → List ℕ
entry_text entry = heading entry ++ string_bytes entry.body

-- the journal of entries; that of none has no bytes
abbrev pub journal_text : List Entry → List ℕ
journal_text entries = flat_map entry_text entries

-- ---- Journals that are fed row by row.

-- whether a fault has ended the journal
abbrev pub is_spent : Journal → Bool
is_spent journal = journal.is_spent

-- What a writer holds of a journal that began at a place, after one more entry: the journal with it. Where the writer
-- fails, it is the journal before it and a prefix of its text, but not all of it. A spent journal stays as it is.
abbrev pub GrowsByEntry : List Entry → Entry → Option (List ℕ) → Option (List ℕ) → Result (Unit {0}) JournalFault → Type 0
GrowsByEntry entries entry start now (Ok done) = Appends start now (journal_text (entries ++ entry ∷ []))
GrowsByEntry entries entry start now (Err Write) =
    (part : List ℕ) × IsProperPrefixOf part (entry_text entry) × Appends start now (journal_text entries ++ part)
GrowsByEntry entries entry start now (Err Spent) = Appends start now (journal_text entries)
