-- The rows of a broker file, or why it has none (docs/FORMATS.md, Broker files).
use Rattle.std.specs.Prelude.{◌≡◌, ◌≤◌, ◌+◌, ℕ, List, ◌∷◌, ◌++◌, length}
use Rattle.std.specs.List.{AllZip}
use Rattle.csv.specs.Reading.{default_config, records, strip_bom}
use Rattle.lot_import.specs.Header.{MayHaveHeader}
use Rattle.lot_import.specs.Row.{columns, IsRow, IsFaulty}
use Rattle.lot_import.specs.declared.fault.Cause.{Cause}
use Rattle.lot_import.specs.declared.fault.RowsFault.{RowsFault}
use Rattle.lot_import.specs.declared.fault.RowsFault.TheVariants as Faults
use Rattle.lot_import.specs.declared.row.Row.{Row}
use Rattle.lot_import.specs.declared.version.Version.{Version}

-- the most rows of a file
abbrev pub most_rows : ℕ
most_rows = 100000

-- ---- Records.

-- the records of a file, as the crate `csv` cuts it; a byte order mark at the start is skipped
abbrev pub file_records : List ℕ → List (List (List ℕ))
file_records bytes = records default_config (strip_bom bytes)

-- the file is of that version, and these are its records behind the header
abbrev pub HasRecords : Version → List ℕ → List (List (List ℕ)) → Type 0
HasRecords version bytes written = file_records bytes ≡ columns version ∷ written

-- ---- What the records behind the header say.

-- each of the records says the row at its place
abbrev pub SayRows : Version → List (List (List ℕ)) → List Row → Type 0
SayRows version written rows = AllZip (IsRow version) written rows

-- the first faulty one is that one, counted from 1, by that cause
pub record HasBadRecord (version : Version) (written : List (List (List ℕ))) (number : ℕ) (cause : Cause) : Type 0 where
  pub before : List (List (List ℕ))
  pub faulty : List (List ℕ)
  pub after : List (List (List ℕ))
  pub all : written ≡ before ++ faulty ∷ after
  pub rows : List Row
  pub said : SayRows version before rows
  pub why : IsFaulty version faulty cause
  pub place : number ≡ length before + 1
  pub few : number ≤ most_rows

-- there is one more than there may be, and none before it is faulty
pub record HasExtraRecord (version : Version) (written : List (List (List ℕ))) : Type 0 where
  pub before : List (List (List ℕ))
  pub extra : List (List ℕ)
  pub after : List (List (List ℕ))
  pub all : written ≡ before ++ extra ∷ after
  pub rows : List Row
  pub said : SayRows version before rows
  pub many : length before ≡ most_rows

-- ---- What the file says.

pub record AreRows (bytes : List ℕ) (rows : List Row) : Type 0 where
  pub version : Version
  pub written : List (List (List ℕ))
  pub file : HasRecords version bytes written
  pub said : SayRows version written rows
  pub few : length written ≤ most_rows

-- it has the header of no version
abbrev pub HasNoHeader : List ℕ → Type 0
HasNoHeader bytes = (version : Version) (written : List (List (List ℕ))) → HasRecords version bytes written → ⊥

-- the file has that fault; out of memory comes only of one that may have a header, as far as its first line says
abbrev pub HasFault : List ℕ → RowsFault → Type 0
HasFault bytes Faults.BadHeader = HasNoHeader bytes
HasFault bytes (Faults.BadRow number cause) =
    (version : Version) × (written : List (List (List ℕ))) × HasRecords version bytes written × HasBadRecord version written number cause
HasFault bytes Faults.TooManyRows =
    (version : Version) × (written : List (List (List ℕ))) × HasRecords version bytes written × HasExtraRecord version written
HasFault bytes Faults.Memory = MayHaveHeader bytes
