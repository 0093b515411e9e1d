-- The walk over the entries of a book in their order: each under its number and its key, with its canonical text
-- (docs/FORMATS.md, Journal).
use Rattle.std.specs.Prelude.{◌≡◌, ℕ, List, [], ◌∷◌}
use Rattle.std.specs.String.{string_bytes}
use Rattle.lot_command.specs.Canonical.{canonical}
use Rattle.lot_command.specs.declared.command.Command.{Command}
use Rattle.lot_read.specs.Text.{Reads}
use Rattle.lot_book.specs.Facts.{Entry}
use Rattle.lot_report.specs.declared.journal.Entry.{Entry as Printed}
use Rattle.lot_rows.specs.Entry.{entry_cells}
use Rattle.lot_rows.specs.Tables.{Tables}
use Rattle.lot_rows.specs.declared.entry.EntryRow.{EntryRow}
use Rattle.lot_page.specs.Cursor.{IsBehind}
use Rattle.lot_stored.specs.Rows.{entry_rows}
use Rattle.lot_walk.specs.declared.journal.JournalPlace.{JournalPlace}

-- ---- the rows

-- what an entry says: its number, its key, and its text
abbrev pub said : Printed → EntryRow
said entry = record { number = entry.number; source = entry.key.source; name = entry.key.name; body = string_bytes entry.body }

-- the text is the canonical text of one command, and reads as that command
abbrev pub IsCanonical : List ℕ → Type 0
IsCanonical text = (command : Command) × (text ≡ canonical command) × Reads text (command ∷ [])

abbrev pub HasCanonicalText : Printed → Type 0
HasCanonicalText entry = IsCanonical (string_bytes entry.body)

-- these are the entries of a book, all of them, numbered from 1
abbrev pub AreEntries : Unit {0} → List Entry → List EntryRow → Type 0
AreEntries asked entries rows = rows ≡ entry_rows 1 entries

-- these are the rows of the table, all of them
abbrev pub AreAllEntryRows : Unit {0} → Tables → List EntryRow → Type 0
AreAllEntryRows asked tables rows = rows ≡ tables.entry

-- ---- the place among them

abbrev pub IsBehindEntryRows : JournalPlace → Tables → Unit {0} → List EntryRow → Type 0
IsBehindEntryRows place tables asked given = IsBehind entry_cells given tables.entry place.cursor

abbrev pub IsBehindEntries : JournalPlace → Tables → Unit {0} → List Entry → List EntryRow → Type 0
IsBehindEntries place tables asked entries given = IsBehindEntryRows place tables asked given
