-- The rows of an export as they are handed in, each under its key (docs/FORMATS.md, Profiles).
use Rattle.std.specs.Prelude.{◌≡◌, ℕ, ◌+◌, ◌<◌, ◌^◌, ⊤, All, List, ◌∷◌, ◌++◌, filter, map, zip, IsSome, IsTrue, Option, Some, ℤ}
use Rattle.std.specs.List.{AllByRecursion, AllZip}
use Rattle.lot_command.specs.declared.key.Key.{Key}
use Rattle.lot_deal_read.specs.declared.says.Dated.{Dated}
use Rattle.lot_rounding.specs.declared.asked.Asked.{Asked}
use Rattle.lot_export.specs.Cancels.{bought_on}
use Rattle.lot_export.specs.Deals.{HasAsked, HasNone}
use Rattle.lot_export.specs.Entries.{dated_at}
use Rattle.lot_export.specs.Named.{is_posted}
use Rattle.lot_export.specs.declared.entry.Entry.{Entry}
use Rattle.lot_export.specs.declared.fault.ExportFault.{ExportFault}
use Rattle.lot_export.specs.declared.fault.ExportFault.TheVariants as fault
use Rattle.lot_export.specs.declared.handed_in.Sheet.{Sheet}
use Rattle.lot_export.specs.declared.named.Named.{Named}

-- ---- Rows that are handed in.

-- a row that is judged, beside the place of the purchase that it takes back, if it takes one back
abbrev pub Judged : Type 0
Judged = Named × Option ℕ

-- those of a file, in the order of judging
abbrev pub judged_of : Sheet → List Judged
judged_of sheet = zip sheet.rows.now sheet.partners.now

-- the day of the purchase that a row takes back, if it takes one back that isn't left out
abbrev pub bought_for : Sheet → Judged → Option ℤ
bought_for sheet row = bought_on sheet.rows.now sheet.except.now row.1

-- a row asks for that
pub record HasAskedAt (sheet : Sheet) (row : Judged) (asked : Asked) : Type 0 where
  pub dated : Dated
  pub there : dated_at sheet.entries.now row.0.number ≡ Some dated
  pub is : HasAsked dated (bought_for sheet row) asked

-- a row as it is handed in, under the key of its name in that source
pub record IsHandedIn (source : List ℕ) (sheet : Sheet) (row : Judged) (given : Key × Asked) : Type 0 where
  pub key : given.0 ≡ record { source = source; name = row.0.name }
  pub asked : HasAskedAt sheet row given.1

-- the rows that are neither left out nor posted by hand
abbrev pub posted_of : Sheet → List Judged → List Judged
posted_of sheet rows = filter (λ (row : Judged). is_posted sheet.entries.now sheet.except.now row.0) rows

-- the numbers of the rows that are handed in, and what they are, one by one
pub record AreHandedIn (source : List ℕ) (sheet : Sheet) (rows : List Judged) (given : List ℕ × List (Key × Asked)) : Type 0 where
  pub numbers : given.0 ≡ map (λ (row : Judged). row.0.number) (posted_of sheet rows)
  pub commands : AllZip (IsHandedIn source sheet) (posted_of sheet rows) given.1

-- each of the numbers has a next one that is counted, too
abbrev pub HaveNext : List ℕ → Type 0
HaveNext numbers = All (λ number. number + 1 < 2 ^ 64) numbers

-- each of the rows stands in the file, and has a day there
abbrev pub HaveDays : List Entry → List Named → Type 0
HaveDays entries rows = AllByRecursion (λ (row : Named). IsSome (dated_at entries row.number)) rows

-- ---- Faults.

-- a row asks for nothing, for that fault
abbrev pub IsToFail : Sheet → Judged → ExportFault → Type 0
IsToFail sheet row fault.Memory = ⊤
IsToFail sheet row given =
    (dated : Dated) × (dated_at sheet.entries.now row.0.number ≡ Some dated)
    × HasNone row.0.number dated (bought_for sheet row) given

-- each row that is neither left out nor posted by hand asks for something
abbrev pub HaveAsked : Sheet → List Judged → Type 0
HaveAsked sheet rows = AllByRecursion (λ row. (asked : Asked) × HasAskedAt sheet row asked) (posted_of sheet rows)

-- the first row that is neither left out nor posted by hand and asks for nothing is that one
pub record FailsFirst (sheet : Sheet) (rows : List Judged) (given : ExportFault) : Type 0 where
  pub before : List Judged
  pub row : Judged
  pub after : List Judged
  pub all : rows ≡ before ++ row ∷ after
  pub earlier : HaveAsked sheet before
  pub posted : IsTrue (is_posted sheet.entries.now sheet.except.now row.0)
  pub fails : IsToFail sheet row given

abbrev pub FailsAmong : Sheet → List Judged → ExportFault → Type 0
FailsAmong sheet rows fault.Memory = ⊤
FailsAmong sheet rows given = FailsFirst sheet rows given
