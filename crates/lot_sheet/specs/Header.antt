-- Which lines are headers, and what the tables of a file go by at a line (docs/FORMATS.md, Profiles).
use Rattle.std.specs.Prelude.{◌+◌, ◌==◌, ◌&&◌, ◌||◌, ℕ, Bool, true, false, if◌then◌else◌, List, [], ◌∷◌, ◌++◌, map, Option, Some, None}
use Rattle.std.specs.List.{flat_map}
use Rattle.std.specs.Option.{is_some, option_or}
use Rattle.lot_profile.specs.declared.file.Delimiter.{Delimiter}
use Rattle.lot_profile.specs.declared.file.Delimiter.TheVariants.{Comma, Semicolon, Tab}
use Rattle.lot_profile.specs.declared.table.Header.{Header}
use Rattle.lot_profile.specs.declared.table.Header.TheVariants.{Absent, Number, Begins}
use Rattle.lot_profile.specs.declared.table.Table.{Table}
use Rattle.lot_sheet.specs.Column.{names_in}

-- the byte between fields
abbrev pub delimiter_byte : Delimiter → ℕ
delimiter_byte Comma = 44
delimiter_byte Semicolon = 59
delimiter_byte Tab = 9

-- the fields of a line with the delimiter between them
abbrev pub joined : ℕ → List (List ℕ) → List ℕ
joined between [] = []
joined between (field ∷ fields) = field ++ flat_map (λ (more : List ℕ). between ∷ more) fields

-- whether a line begins with a text
abbrev pub begins : List ℕ → List ℕ → Bool
begins [] line = true
begins (byte ∷ text) [] = false
begins (byte ∷ text) (first ∷ rest) = (byte == first) && begins text rest

-- whether the line of that number, counted from 1, is a header of that kind; its fields are compared without the blanks at their
-- ends
abbrev pub heads : Delimiter → ℕ → List (List ℕ) → Header → Bool
heads delimiter number line Absent = false
heads delimiter number line (Number wanted) = number == wanted
heads delimiter number line (Begins text) = begins text (joined (delimiter_byte delimiter) (names_in line))

-- whether the lines have no header of that kind, since the table has none
abbrev pub is_absent : Header → Bool
is_absent Absent = true
is_absent (Number wanted) = false
is_absent (Begins text) = false

-- the names of the last header of that kind among lines, the first of which has that number
abbrev pub last_header : Delimiter → Header → ℕ → List (List (List ℕ)) → Option (List (List ℕ))
last_header delimiter header number [] = None
last_header delimiter header number (line ∷ lines) =
    option_or (last_header delimiter header (number + 1) lines) (if heads delimiter number line header then Some (names_in line) else None)

-- ---- At a line.

-- a table, and the names of its last header above the line, if there is one
abbrev pub Standing : Type 0
Standing = Table × Option (List (List ℕ))

-- how the tables stand at a line with these lines above it
abbrev pub standing : Delimiter → List Table → List (List (List ℕ)) → List Standing
standing delimiter tables above = map (λ (table : Table). (table, last_header delimiter table.header 1 above)) tables

-- whether a table has begun: it has no header, or one above the line
abbrev pub has_begun : Standing → Bool
has_begun (table, header) = is_absent table.header || is_some header

-- whether a line is a header of the table
abbrev pub is_header_of : Delimiter → ℕ → List (List ℕ) → Standing → Bool
is_header_of delimiter number line (table, header) = heads delimiter number line table.header

-- how a table stands behind the line of that number
abbrev pub with_header : Delimiter → ℕ → List (List ℕ) → Standing → Standing
with_header delimiter number line (table, header) =
    (table, (if heads delimiter number line table.header then Some (names_in line) else header))

-- what of a text is left behind a field, where one of them begins with the other
abbrev pub left_behind : List ℕ → List ℕ → Option (List ℕ)
left_behind text [] = Some text
left_behind [] (first ∷ field) = Some []
left_behind (byte ∷ text) (first ∷ field) = if byte == first then left_behind text field else None
