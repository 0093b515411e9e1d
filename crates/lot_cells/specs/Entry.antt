-- An entry as a page lists it: the text of the journal, in which what stands in quotes is a name (docs/FORMATS.md, Page).
use Rattle.std.specs.Prelude.{◌≡◌, ◌==◌, ℕ, if◌then◌else◌, List, [], ◌∷◌, ◌++◌, codes, decimal}
use Rattle.std.specs.String.{string_bytes}
use Rattle.lot_cells.specs.Cell.{cells}
use Rattle.lot_html.specs.Html.{element_text}
use Rattle.lot_html.specs.Text.{escaped}
use Rattle.lot_report.specs.declared.journal.Entry.{Entry}
use Rattle.lot_cells.specs.declared.entries.Place.{Place as PlaceOf}
use Rattle.lot_cells.specs.declared.entries.Place.TheVariants.{Outside, Inside, Escaped}

-- where a byte of a command stands: outside of quotes, in quotes, or there behind a backslash
pub data Place : Type 0 where
  outside : Place
  inside : Place
  behind : Place

abbrev pub place_of : PlaceOf → Place
place_of Outside = outside
place_of Inside = inside
place_of Escaped = behind

-- where the next byte stands
abbrev pub next_place : Place → ℕ → Place
next_place outside byte = if byte == 34 then inside else outside
next_place inside byte = if byte == 34 then outside else (if byte == 92 then behind else inside)
next_place behind byte = inside

-- a quote that begins or ends a text has the tag of a name on its inner side; every other byte stands for itself
abbrev pub byte_html : Place → ℕ → List ℕ
byte_html outside byte = if byte == 34 then codes "&quot;<bdi>" else escaped (byte ∷ [])
byte_html inside byte = if byte == 34 then codes "</bdi>&quot;" else escaped (byte ∷ [])
byte_html behind byte = escaped (byte ∷ [])

-- what is open at the end is closed there
abbrev pub end_html : Place → List ℕ
end_html outside = []
end_html inside = codes "</bdi>"
end_html behind = codes "</bdi>"

abbrev pub command_html : Place → List ℕ → List ℕ
command_html place [] = end_html place
command_html place (byte ∷ rest) = byte_html place byte ++ command_html (next_place place byte) rest

-- what is written of some bytes of a command, and where the next one stands: the rest goes on from there
abbrev pub GoesOn : List ℕ → Place → List ℕ → List ℕ → Place → Type 0
GoesOn old place bytes new next = (rest : List ℕ) → new ++ command_html next rest ≡ old ++ command_html place (bytes ++ rest)

-- the line above a command, and the command
abbrev pub entry_html : Entry → List ℕ
entry_html entry =
    cells
    (codes "<i>; entry " ∷ decimal entry.number ∷ codes " key " ∷ escaped entry.key.source ∷ codes " "
    ∷ element_text (codes "bdi") [] entry.key.name ∷ codes "</i>\n" ∷ command_html outside (string_bytes entry.body) ∷ [])
