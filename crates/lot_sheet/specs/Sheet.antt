-- The rows of a broker's file, or why it has none (docs/FORMATS.md, Profiles).
use Rattle.std.specs.Prelude.{◌≡◌, ◌≤◌, ◌+◌, ℕ, Bool, true, false, not, List, [], ◌∷◌, ◌++◌, filter, length, Option, ⊤}
use Rattle.std.specs.Char.{encode_utf8}
use Rattle.std.specs.List.{All, flat_map, list_all, list_any}
use Rattle.csv.specs.Reading.{default_config, records, strip_bom}
use Rattle.csv.specs.Records.{AllText}
use Rattle.csv.specs.declared.parser.Config.{Config}
use Rattle.lot_profile.specs.declared.file.Delimiter.{Delimiter}
use Rattle.lot_profile.specs.declared.file.Encoding.{Encoding}
use Rattle.lot_profile.specs.declared.file.Encoding.TheVariants.{Utf8, Latin1}
use Rattle.lot_profile.specs.declared.file.FileForm.{FileForm}
use Rattle.lot_profile.specs.declared.table.Table.{Table}
use Rattle.lot_sheet.specs.declared.fault.SheetFault.{SheetFault}
use Rattle.lot_sheet.specs.declared.fault.SheetFault.TheVariants as Faults
use Rattle.lot_sheet.specs.Column.{is_blank_field}
use Rattle.lot_sheet.specs.Header.{delimiter_byte, has_begun, standing}
use Rattle.lot_sheet.specs.Part.{IsPart, Part, Outside, Heading, BadHeading, RowOf, BadRow}

-- the most rows of a file
abbrev pub most_rows : ℕ
most_rows = 100000

-- ---- Lines.

-- the text of a file: in Latin-1 each byte is a character, and a byte order mark of UTF-8 at its start is read over
abbrev pub text_of : Encoding → List ℕ → List ℕ
text_of Utf8 bytes = bytes
text_of Latin1 bytes = flat_map encode_utf8 (strip_bom bytes)

-- how the crate `csv` cuts a text with that delimiter
abbrev pub config : Delimiter → Config
config delimiter = record default_config { delimiter = delimiter_byte delimiter }

-- whether a record has a field that isn't blank
abbrev pub is_line : List (List ℕ) → Bool
is_line fields = not (list_all is_blank_field fields)

-- the lines of a text: its records, as the crate `csv` cuts it, without the blank ones; a byte order mark at its start is read over
abbrev pub text_lines : FileForm → List ℕ → List (List (List ℕ))
text_lines form text = filter is_line (records (config form.delimiter) (strip_bom text))

-- the lines of a file
abbrev pub file_lines : FileForm → List ℕ → List (List (List ℕ))
file_lines form bytes = text_lines form (text_of form.encoding bytes)

-- ---- What lines say.

-- a row: its number, counted from 1; its table, counted from 0; the fields of the header that it goes by, if its table has one;
-- and its own
pub record SheetRow : Type 0 where
  pub number : ℕ
  pub table : ℕ
  pub header : Option (List (List ℕ))
  pub fields : List (List ℕ)

-- each of the lines is what stands at its place, with these lines above them
abbrev pub AreParts : FileForm → List Table → List (List (List ℕ)) → List (List (List ℕ)) → List Part → Type 0
AreParts form tables above [] [] = ⊤
AreParts form tables above [] (part ∷ parts) = ⊥
AreParts form tables above (line ∷ lines) [] = ⊥
AreParts form tables above (line ∷ lines) (part ∷ parts) =
    IsPart form tables above line part × AreParts form tables (above ++ line ∷ []) lines parts

-- a line with nothing wrong: it is outside, or a header, or a row
abbrev pub IsGood : Part → Type 0
IsGood Outside = ⊤
IsGood Heading = ⊤
IsGood (BadHeading name cause) = ⊥
IsGood (RowOf table header fields) = ⊤
IsGood (BadRow cause) = ⊥

-- a line has to be a row, and may be faulty
abbrev pub IsRowPart : Part → Type 0
IsRowPart Outside = ⊥
IsRowPart Heading = ⊥
IsRowPart (BadHeading name cause) = ⊥
IsRowPart (RowOf table header fields) = ⊤
IsRowPart (BadRow cause) = ⊤

-- the rows among what lines are, the first of which has that number
abbrev pub rows_from : ℕ → List Part → List SheetRow
rows_from number [] = []
rows_from number (Outside ∷ more) = rows_from number more
rows_from number (Heading ∷ more) = rows_from number more
rows_from number (BadHeading name cause ∷ more) = rows_from number more
rows_from number (RowOf table header fields ∷ more) =
    record { number = number; table = table; header = header; fields = fields } ∷ rows_from (number + 1) more
rows_from number (BadRow cause ∷ more) = rows_from number more

-- the lines are text with nothing wrong, and these are their rows
pub record Say (form : FileForm) (tables : List Table) (lines : List (List (List ℕ))) (rows : List SheetRow) : Type 0 where
  pub parts : List Part
  pub text : All AllText lines
  pub each : AreParts form tables [] lines parts
  pub good : All IsGood parts
  pub are : rows ≡ rows_from 1 parts
  pub few : length rows ≤ most_rows

-- whether a table begins among the lines
abbrev pub begins_in : FileForm → List Table → List (List (List ℕ)) → Bool
begins_in form tables lines = list_any has_begun (standing form.delimiter tables lines)

-- the first line with something wrong is that one: those above it say these rows
pub record StopsAt (form : FileForm) (tables : List Table) (lines above : List (List (List ℕ))) (line : List (List ℕ)) (rows : List SheetRow) : Type 0 where
  pub below : List (List (List ℕ))
  pub all : lines ≡ above ++ line ∷ below
  pub say : Say form tables above rows

-- one of the lines isn't text
pub record HasBadText (form : FileForm) (tables : List Table) (lines : List (List (List ℕ))) (number : ℕ) : Type 0 where
  pub above : List (List (List ℕ))
  pub line : List (List ℕ)
  pub rows : List SheetRow
  pub stops : StopsAt form tables lines above line rows
  pub why : AllText line → ⊥
  pub place : number ≡ length above + 1

-- one of the lines is that part, which is wrong, or a row too many
pub record HasPart (form : FileForm) (tables : List Table) (lines above : List (List (List ℕ))) (rows : List SheetRow) (part : Part) : Type 0 where
  pub line : List (List ℕ)
  pub stops : StopsAt form tables lines above line rows
  pub text : AllText line
  pub why : IsPart form tables above line part

-- the lines have that fault, the first one; out of memory may come of any lines
abbrev pub HaveFault : FileForm → List Table → List (List (List ℕ)) → SheetFault → Type 0
HaveFault form tables lines (Faults.NotText number) = HasBadText form tables lines number
HaveFault form tables lines Faults.NoHeader =
    (begins_in form tables lines ≡ false) × ((rows : List SheetRow) × Say form tables lines rows)
HaveFault form tables lines (Faults.BadHeader number name cause) =
    (above : List (List (List ℕ))) × (rows : List SheetRow) × HasPart form tables lines above rows (BadHeading name cause)
    × (number ≡ length above + 1)
HaveFault form tables lines (Faults.BadRow number cause) =
    (above : List (List (List ℕ))) × (rows : List SheetRow) × HasPart form tables lines above rows (BadRow cause)
    × (number ≡ length rows + 1) × (number ≤ most_rows)
HaveFault form tables lines Faults.TooManyRows =
    (above : List (List (List ℕ))) × (rows : List SheetRow) × (part : Part) × HasPart form tables lines above rows part
    × IsRowPart part × (length rows ≡ most_rows)
HaveFault form tables lines Faults.Memory = ⊤

-- ---- What the file says.

-- the lines say these rows, and a table begins
pub record SayAll (form : FileForm) (tables : List Table) (lines : List (List (List ℕ))) (rows : List SheetRow) : Type 0 where
  pub say : Say form tables lines rows
  pub begun : begins_in form tables lines ≡ true

-- the file has these rows
abbrev pub AreRows : FileForm → List Table → List ℕ → List SheetRow → Type 0
AreRows form tables bytes rows = SayAll form tables (file_lines form bytes) rows

-- the file has that fault
abbrev pub HasFault : FileForm → List Table → List ℕ → SheetFault → Type 0
HasFault form tables bytes fault = HaveFault form tables (file_lines form bytes) fault
