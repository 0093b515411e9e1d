-- The rows of an export, each with what it says (docs/FORMATS.md, Profiles).
use Rattle.std.specs.Prelude.{◌≡◌, ◌≢◌, ℕ, ◌+◌, ◌-◌, ◌^◌, ◌≤◌, min, ⊤, Bool, true, false, List, ◌∷◌, ◌++◌, count_by, length, Option, Some, None}
use Rattle.std.specs.List.{AllZip, slice_get, sum_by}
use Rattle.lot_deal_read.specs.Rounded.{IsRounded}
use Rattle.lot_deal_read.specs.Row.{Says, SaysNothing}
use Rattle.lot_deal_read.specs.declared.says.Dated.{Dated}
use Rattle.lot_deal_read.specs.declared.says.RowSays.{RowSays}
use Rattle.lot_deal_read.specs.declared.says.RowSays.TheVariants as says
use Rattle.lot_profile.specs.declared.profile.Profile.{Profile}
use Rattle.lot_sheet.specs.Sheet.{SheetRow, most_rows}
use Rattle.lot_roles.specs.declared.fault.RowFault.TheVariants.{Memory as RowMemory}
use Rattle.lot_export.specs.declared.fault.ExportFault.{ExportFault}
use Rattle.lot_export.specs.declared.fault.ExportFault.TheVariants as fault
use Rattle.lot_export.specs.declared.entry.Entry.{Entry}

-- a row, with what it says
pub record IsEntry (profile : Profile) (row : SheetRow) (entry : Entry) : Type 0 where
  pub number : entry.number ≡ row.number
  pub table : entry.table ≡ row.table
  pub says : Says profile row entry.says
  pub rounded : IsRounded profile row entry.rounded

-- rows with what each says, in their order
abbrev pub AreEntries : Profile → List SheetRow → List Entry → Type 0
AreEntries profile = AllZip (IsEntry profile)

-- a row says nothing that can be posted, for that fault
abbrev pub IsRowFault : Profile → SheetRow → ExportFault → Type 0
IsRowFault profile row (fault.Row number given) =
    (number ≡ row.number) × (given ≢ RowMemory) × SaysNothing profile row given
IsRowFault profile row fault.Memory = ⊤
IsRowFault profile row _ = ⊥

-- the first row that says nothing is that one
pub record FailsFirst (profile : Profile) (rows : List SheetRow) (given : ExportFault) : Type 0 where
  pub before : List SheetRow
  pub entries : List Entry
  pub row : SheetRow
  pub after : List SheetRow
  pub all : rows ≡ before ++ row ∷ after
  pub earlier : AreEntries profile before entries
  pub fails : IsRowFault profile row given

abbrev pub FailsAmong : Profile → List SheetRow → ExportFault → Type 0
FailsAmong profile rows (fault.Row number given) = FailsFirst profile rows (fault.Row number given)
FailsAmong profile rows fault.Memory = ⊤
FailsAmong profile rows _ = ⊥

-- each row has its number, counted from 1, and they aren't too many
pub record AreNumbered (entries : List Entry) : Type 0 where
  pub each : (place : ℕ) (entry : Entry) → slice_get entries place ≡ Some entry → entry.number ≡ place + 1
  pub few : length entries ≤ most_rows

abbrev pub dated_by : RowSays → Option Dated
dated_by says.Skipped = None
dated_by (says.Dated dated) = Some dated

abbrev pub dated_in : Option Entry → Option Dated
dated_in None = None
dated_in (Some entry) = dated_by entry.says

-- the row of that number, counted from 1, if it has a day
abbrev pub dated_at : List Entry → ℕ → Option Dated
dated_at entries number = dated_in (slice_get entries (number - 1))

-- how many rows are passed over by a rule
abbrev pub is_skipped_by : RowSays → Bool
is_skipped_by says.Skipped = true
is_skipped_by (says.Dated dated) = false

abbrev pub skipped_in : List Entry → ℕ
skipped_in entries = count_by (λ (entry : Entry). is_skipped_by entry.says) entries

-- how many amounts and prices of rows were rounded as they were read; as many as can be counted where there are more
abbrev pub rounded_in : List Entry → ℕ
rounded_in entries = min (sum_by (λ (entry : Entry). entry.rounded) entries) (2 ^ 64 - 1)
