-- The dump of a book, and what restoring it gives (docs/FORMATS.md, Dump).
use Rattle.std.specs.Prelude.{◌≡◌, ℕ, suc, All, List, [], ◌∷◌, length, None, Option, ⊤}
use Rattle.std.specs.Io.KnownBytes.{Appends}
use Rattle.sqlite.specs.State.{State}
use Rattle.lot_book.specs.Facts.{Entry}
use Rattle.lot_command.specs.Canonical.{canonical}
use Rattle.lot_command.specs.Sayable.{IsSayable}
use Rattle.lot_dump.specs.Form.{HasNoBlank, IsHeading}
use Rattle.lot_dump.specs.declared.end.End.{End}
use Rattle.lot_dump.specs.declared.heading.Heading.{Heading}
use Rattle.lot_load.specs.Kept.{IsOf}
use Rattle.lot_parts.specs.Commands.{MayEnd}
use Rattle.lot_parts.specs.Dump.{Dump, Part}
use Rattle.lot_parts.specs.Entries.{dump_of}
use Rattle.lot_restore.specs.Restoring.{JudgedDump, Terms, how_of, place_of, said_of}
use Rattle.lot_restore.specs.Judge.{StandsAt}
use Rattle.lot_restore.specs.declared.fault.RestoreFault.{RestoreFault}
use Rattle.lot_restore.specs.declared.fault.RestoreFault.TheVariants.{Book, Sum, Text, Write}
use Rattle.lot_restore.specs.declared.restoring.Restored.{Restored}
use Rattle.lot_restore.specs.declared.restoring.Restored.TheVariants.{Whole}

-- the heading of an entry: its number and its key
abbrev pub heading_of : ℕ → Entry → Heading
heading_of number entry = record { number = number; key = entry.key }

-- the entries of a book, of which the first has that number: each under its heading, with the canonical text of its command
abbrev pub parts_from : ℕ → List Entry → List Part
parts_from number [] = []
parts_from number (entry ∷ entries) =
    record { heading = heading_of number entry; text = canonical entry.command } ∷ parts_from (suc number) entries

-- the dump of a book with that place of migration, which ends so
abbrev pub dump_of_book : ℕ → List Entry → End → Dump
dump_of_book place entries end = dump_of (record { place = place; entries = length entries }) (parts_from 1 entries) end

-- each entry can be written in a dump: its key is that of a heading, and its command can be said
abbrev pub CanBeDumped : ℕ → List Entry → Type 0
CanBeDumped number [] = ⊤
CanBeDumped number (entry ∷ entries) =
    IsHeading (heading_of number entry) × IsSayable entry.command × CanBeDumped (suc number) entries

-- A dump that was judged gives back a book with that place of migration: the book that is made has its entries and its place, and
-- there is nothing to say.
pub record GivesBack (asked : Terms) {input : Option (List ℕ)} (it : JudgedDump asked input) (place : ℕ) (entries book : List Entry)
    : Type 0 where
  pub same : book ≡ entries
  pub placed : place_of asked it ≡ place
  pub whole : how_of asked it ≡ Whole
  pub silent : said_of asked it ≡ []

-- ---- the books that can be dumped

-- no source of a key has a blank, as in no command that is posted or imported
abbrev pub HaveNoBlanks : List Entry → Type 0
HaveNoBlanks = All (λ (entry : Entry). HasNoBlank entry.key.source)

-- ---- what restoring the dump of a book comes to

-- Where the disk returned what was written, and the connection is open, the book is made, with its place, and nothing is said.
pub record IsGivenBack (place : ℕ) (entries : List Entry) (before written : Option (List ℕ)) (new : State) (how : Restored) : Type 0 where
  pub whole : how ≡ Whole
  pub silent : Appends before written []
  pub stands : StandsAt (IsOf None) new entries place
  pub committed : new.now ≡ new.committed

-- It may end with a fault only so: no book can be made, or its commit failed; the reader or the writer failed; a line or an entry is
-- too long; or memory ended.
abbrev pub MayEndSo : RestoreFault → Type 0
MayEndSo (Book fault) = ⊤
MayEndSo (Text fault) = MayEnd fault
MayEndSo (Sum fault) = ⊥
MayEndSo Write = ⊤
