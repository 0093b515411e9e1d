-- What a reader of a broker's file has left, for the code alone.
use Rattle.std.specs.Prelude.{◌≡◌, ◌≤◌, ◌<◌, ◌+◌, ◌∷◌, ℕ, List, [], filter, length, true, Option, Some, None, IsSome, Result, Ok, Err, ⊤}
use Rattle.csv.specs.Reading.{Ready, is_flexible, reader_config, reader_state, reader_trim, records_from, source_of}
use Rattle.csv.specs.Records.{AllText}
use Rattle.csv.specs.declared.parser.Config.{Config}
use Rattle.csv.specs.declared.parser.State.{State}
use Rattle.csv.specs.declared.reader.Reader.{Reader}
use Rattle.csv.specs.declared.reader.Trim.TheVariants as trim
use Rattle.lot_profile.specs.declared.file.FileForm.{FileForm}
use Rattle.lot_profile.specs.declared.table.Table.{Table}
use Rattle.lot_sheet.specs.declared.fault.SheetFault.{SheetFault}
use Rattle.lot_sheet.specs.declared.fault.SheetFault.TheVariants as Faults
use Rattle.lot_sheet.specs.declared.sheet.Sheet.{Sheet}
use Rattle.lot_sheet.specs.Header.{Standing, standing}
use Rattle.lot_sheet.specs.Part.{BadName, BadRow, IsBodyBy, Outside, Part, RowOf}
use Rattle.lot_sheet.specs.Sheet.{IsRowPart, Say, SheetRow, is_line, most_rows}
use denote.Ref.{Bor}

-- the bytes that a reader has left
abbrev pub bytes_left : Reader (Bor (List ℕ)) → Option (List ℕ)
bytes_left reader = source_of (λ (bytes : Bor (List ℕ)). Some bytes.now) reader

-- the records of these bytes, from a state
abbrev pub records_of : Config → State → Option (List ℕ) → List (List (List ℕ))
records_of cfg state None = []
records_of cfg state (Some bytes) = records_from cfg (length bytes + 1) state bytes

-- the records that a reader has left
abbrev pub records_left : Reader (Bor (List ℕ)) → List (List (List ℕ))
records_left reader = records_of (reader_config reader) (reader_state reader) (bytes_left reader)

-- the lines that it has left
abbrev pub lines_left : Reader (Bor (List ℕ)) → List (List (List ℕ))
lines_left reader = filter is_line (records_left reader)

-- it reads records of any length, untrimmed, and hasn't failed
pub record IsOpen (reader : Reader (Bor (List ℕ))) : Type 0 where
  pub trim : reader_trim reader ≡ trim.None
  pub flexible : is_flexible reader ≡ true
  pub ready : Ready reader
  pub known : IsSome (bytes_left reader)

-- the first of these records, or lines, isn't text
pub record HasNoText (records : List (List (List ℕ))) : Type 0 where
  pub first : List (List ℕ)
  pub others : List (List (List ℕ))
  pub all : records ≡ first ∷ others
  pub why : AllText first → ⊥

-- why the line of that number can't be read, where these are left
abbrev pub IsReadFault : ℕ → List (List (List ℕ)) → SheetFault → Type 0
IsReadFault number left (Faults.NotText line) = (line ≡ number) × HasNoText left
IsReadFault number left Faults.NoHeader = ⊥
IsReadFault number left (Faults.BadHeader line name cause) = ⊥
IsReadFault number left (Faults.BadRow row cause) = ⊥
IsReadFault number left Faults.TooManyRows = ⊥
IsReadFault number left Faults.Memory = ⊤

-- what is wrong with the header of that number, of which that is the first bad name
abbrev pub IsHeaderFault : ℕ → Option BadName → SheetFault → Type 0
IsHeaderFault number bad (Faults.NotText line) = ⊥
IsHeaderFault number bad Faults.NoHeader = ⊥
IsHeaderFault number bad (Faults.BadHeader line name cause) = (line ≡ number) × (Some (name, cause) ≡ bad)
IsHeaderFault number bad (Faults.BadRow row cause) = ⊥
IsHeaderFault number bad Faults.TooManyRows = ⊥
IsHeaderFault number bad Faults.Memory = ⊤

-- what a line gives that is no header, where it is the row of that number if it is one
abbrev pub GivesRow : FileForm → List Standing → ℕ → List (List ℕ) → Result (Option SheetRow) SheetFault → Type 0
GivesRow form tables number line (Ok None) = IsBodyBy form tables line Outside
GivesRow form tables number line (Ok (Some row)) =
    (number ≤ most_rows) × (row.number ≡ number) × (row.fields ≡ line) × IsBodyBy form tables line (RowOf row.table row.header line)
GivesRow form tables number line (Err (Faults.NotText at)) = ⊥
GivesRow form tables number line (Err Faults.NoHeader) = ⊥
GivesRow form tables number line (Err (Faults.BadHeader at name cause)) = ⊥
GivesRow form tables number line (Err (Faults.BadRow row cause)) =
    (row ≡ number) × (number ≤ most_rows) × IsBodyBy form tables line (BadRow cause)
GivesRow form tables number line (Err Faults.TooManyRows) =
    (most_rows < number) × ((part : Part) × IsRowPart part × IsBodyBy form tables line part)
GivesRow form tables number line (Err Faults.Memory) = ⊤

-- the lines that were read say the rows, and the tables stand as they do behind them
pub record IsAt (form : FileForm) (tables : List Table) (above : List (List (List ℕ))) (sheet : Sheet) : Type 0 where
  pub stands : sheet.tables.items ≡ standing form.delimiter tables above
  pub place : sheet.number ≡ length above + 1
  pub say : Say form tables above sheet.rows.items
