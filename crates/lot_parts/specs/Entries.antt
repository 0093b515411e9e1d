-- The entries of a book as the parts of its dump (docs/FORMATS.md, Journal).
use Rattle.std.specs.Prelude.{◌≡◌, ℕ, ◌+◌, List, [], ◌∷◌, ⊤}
use Rattle.lot_dump.specs.Form.{IsHeading}
use Rattle.lot_dump.specs.declared.end.End.{End}
use Rattle.lot_dump.specs.declared.head.Head.{Head}
use Rattle.lot_print.specs.Canonical.{IsCanonical}
use Rattle.lot_parts.specs.Dump.{Dump, Part}

-- the entries of a book from that number on: each has the next number, and the canonical text of a command
abbrev pub AreEntries : ℕ → List Part → Type 0
AreEntries number [] = ⊤
AreEntries number (entry ∷ entries) =
    (entry.heading.number ≡ number) × IsHeading entry.heading × IsCanonical entry.text × AreEntries (number + 1) entries

-- the dump of a book
abbrev pub dump_of : Head → List Part → End → Dump
dump_of head entries end = record { head = head; above = []; parts = entries; end = end }
