-- What a reader of a broker file has left, for the code alone.
use Rattle.std.specs.Prelude.{◌≡◌, ◌⊎◌, ◌≤◌, ◌<◌, ◌+◌, ◌++◌, ◌∷◌, ℕ, List, [], length, true, Option, Some, None, IsSome, Result, Ok, Err, ⊤}
use Rattle.csv.specs.Reading.{default_config, has_failed, is_flexible, reader_config, reader_state, reader_trim, Ready, records_from, source_of}
use Rattle.csv.specs.declared.parser.State.{State}
use Rattle.csv.specs.declared.reader.Reader.{Reader}
use Rattle.csv.specs.declared.reader.Trim.TheVariants as trim
use Rattle.lot_import.specs.File.{HasBadRecord, HasExtraRecord, SayRows, most_rows}
use Rattle.lot_import.specs.Row.{columns, IsFaulty, IsRow}
use Rattle.lot_import.specs.declared.fault.RowsFault.{RowsFault}
use Rattle.lot_import.specs.declared.fault.RowsFault.TheVariants as Faults
use Rattle.lot_import.specs.declared.row.Row.{Row}
use Rattle.lot_import.specs.declared.version.Version.{Version}
use denote.Ref.{Bor}

-- the bytes that a reader has left
abbrev pub bytes_left : Reader (Bor (List ℕ)) → Option (List ℕ)
bytes_left reader = source_of (λ (bytes : Bor (List ℕ)). Some bytes.now) reader

-- the records of these bytes, from a state
abbrev pub records_of : State → Option (List ℕ) → List (List (List ℕ))
records_of state None = []
records_of state (Some bytes) = records_from default_config (length bytes + 1) state bytes

-- the records that a reader has left
abbrev pub records_left : Reader (Bor (List ℕ)) → List (List (List ℕ))
records_left reader = records_of (reader_state reader) (bytes_left reader)

-- it reads records of any length, untrimmed, as the crate does by default, and hasn't failed
pub record IsOpen (reader : Reader (Bor (List ℕ))) : Type 0 where
  pub config : reader_config reader ≡ default_config
  pub trim : reader_trim reader ≡ trim.None
  pub flexible : is_flexible reader ≡ true
  pub ready : Ready reader
  pub known : IsSome (bytes_left reader)

-- why there is no version: the records don't begin with a header, or memory ended while the first was read
abbrev pub HasHeaderFault : List (List (List ℕ)) → Reader (Bor (List ℕ)) → RowsFault → Type 0
HasHeaderFault all reader Faults.BadHeader = (version : Version) (written : List (List (List ℕ))) → all ≡ columns version ∷ written → ⊥
HasHeaderFault all reader (Faults.BadRow number cause) = ⊥
HasHeaderFault all reader Faults.TooManyRows = ⊥
HasHeaderFault all reader Faults.Memory = has_failed reader ≡ true

-- the fault of the records behind the header
abbrev pub HasRecordFault : Version → List (List (List ℕ)) → RowsFault → Type 0
HasRecordFault version written Faults.BadHeader = ⊥
HasRecordFault version written (Faults.BadRow number cause) = HasBadRecord version written number cause
HasRecordFault version written Faults.TooManyRows = HasExtraRecord version written
HasRecordFault version written Faults.Memory = ⊤

-- what the record of that number gives; out of memory only where a file may have that row, and the record says one
abbrev pub GivesRow : Version → ℕ → List (List ℕ) → Result Row RowsFault → Type 0
GivesRow version number written (Ok row) = (number ≤ most_rows) × IsRow version written row
GivesRow version number written (Err Faults.BadHeader) = ⊥
GivesRow version number written (Err (Faults.BadRow place cause)) = (place ≡ number) × (number ≤ most_rows) × IsFaulty version written cause
GivesRow version number written (Err Faults.TooManyRows) = most_rows < number
GivesRow version number written (Err Faults.Memory) = (number ≤ most_rows) × ((row : Row) × IsRow version written row)

-- those of the records that aren't left say rows, and aren't too many
pub record ReadRows (version : Version) (written left : List (List (List ℕ))) : Type 0 where
  pub before : List (List (List ℕ))
  pub all : written ≡ before ++ left
  pub rows : List Row
  pub said : SayRows version before rows
  pub few : length before ≤ most_rows

-- where memory ends: while a record was read, or behind records that say rows
abbrev pub EndsInRows : Version → List (List (List ℕ)) → Reader (Bor (List ℕ)) → Type 0
EndsInRows version written reader = (has_failed reader ≡ true) ⊎ ReadRows version written (records_left reader)

-- the records of a file, its header first, say rows, and aren't too many
pub record SayFile (all : List (List (List ℕ))) (rows : List Row) : Type 0 where
  pub version : Version
  pub written : List (List (List ℕ))
  pub file : all ≡ columns version ∷ written
  pub said : SayRows version written rows
  pub few : length written ≤ most_rows

-- where memory ends in a file: while a record was read, the header or another, or behind a header and records that say rows
abbrev pub EndsInFile : List (List (List ℕ)) → Reader (Bor (List ℕ)) → Type 0
EndsInFile all reader =
    (has_failed reader ≡ true)
    ⊎ ((version : Version) × (written : List (List (List ℕ))) × (all ≡ columns version ∷ written)
    × ReadRows version written (records_left reader))

-- the fault of the records of a file; out of memory never in place of one that a record that was read has
abbrev pub HasFileFault : List (List (List ℕ)) → Reader (Bor (List ℕ)) → RowsFault → Type 0
HasFileFault all reader Faults.BadHeader = (version : Version) (written : List (List (List ℕ))) → all ≡ columns version ∷ written → ⊥
HasFileFault all reader (Faults.BadRow number cause) =
    (version : Version) × (written : List (List (List ℕ))) × (all ≡ columns version ∷ written) × HasBadRecord version written number cause
HasFileFault all reader Faults.TooManyRows =
    (version : Version) × (written : List (List (List ℕ))) × (all ≡ columns version ∷ written) × HasExtraRecord version written
HasFileFault all reader Faults.Memory = EndsInFile all reader
