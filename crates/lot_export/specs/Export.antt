-- The commands of a broker's export, by a profile (docs/FORMATS.md, Profiles).
use Rattle.std.specs.Prelude.{◌≡◌, ℕ, ⊤, List}
use Rattle.lot_profile.specs.declared.profile.Profile.{Profile}
use Rattle.lot_sheet.specs.Sheet.{AreRows, SheetRow, HasFault as HasSheetFault}
use Rattle.lot_export.specs.Cancels.{ArePartners}
use Rattle.lot_sheet.specs.declared.fault.SheetFault.{SheetFault}
use Rattle.lot_export.specs.Faults.{of_sheet}
use Rattle.lot_export.specs.Entries.{AreEntries, FailsAmong as RowsFail, rounded_in, skipped_in}
use Rattle.lot_export.specs.HandedIn.{AreHandedIn, FailsAmong, judged_of}
use Rattle.lot_export.specs.Lines.{AreJudged, IsOrderFault, orders_of}
use Rattle.lot_export.specs.Named.{by_hand_of}
use Rattle.lot_export.specs.declared.entry.Entry.{Entry}
use Rattle.lot_export.specs.declared.export.Export.{Export}
use Rattle.lot_export.specs.declared.fault.ExportFault.{ExportFault}
use Rattle.lot_export.specs.declared.fault.ExportFault.TheVariants as fault
use Rattle.lot_export.specs.declared.handed_in.Sheet.{Sheet}

-- ---- What rows come to, of which it is known what each says.

-- the rows that are judged, and each that takes a purchase back has its own, also where one of the two is left out
pub record AreMatched (profile : Profile) (sheet : Sheet) : Type 0 where
  pub judged : AreJudged (orders_of profile.tables) sheet.entries.now sheet.rows.now
  pub partners : ArePartners sheet.entries.now sheet.rows.now sheet.partners.now

-- the rows of a file that are judged, and the names of those that are left out
pub record IsSheetOf (profile : Profile) (except : List (List ℕ)) (entries : List Entry) (sheet : Sheet) : Type 0 where
  pub entries_are : sheet.entries.now ≡ entries
  pub except_are : sheet.except.now ≡ except
  pub matched : AreMatched profile sheet

-- what rows come to
pub record IsExportOf (source : List ℕ) (profile : Profile) (except : List (List ℕ)) (entries : List Entry) (export : Export)
    : Type 0 where
  pub sheet : Sheet
  pub is : IsSheetOf profile except entries sheet
  pub given : AreHandedIn source sheet (judged_of sheet) (export.given.numbers.items, export.given.commands.items)
  pub by_hand : export.by_hand ≡ by_hand_of entries except sheet.rows.now
  pub skipped : export.skipped ≡ skipped_in entries
  pub rounded : export.rounded ≡ rounded_in entries

-- a row that is to be handed in asks for nothing, and is the first such
pub record HasNothing (profile : Profile) (except : List (List ℕ)) (entries : List Entry) (given : ExportFault) : Type 0 where
  pub sheet : Sheet
  pub is : IsSheetOf profile except entries sheet
  pub fails : FailsAmong sheet (judged_of sheet) given

-- why rows come to nothing
abbrev pub FailsOn : Profile → List (List ℕ) → List Entry → ExportFault → Type 0
FailsOn profile except entries (fault.Order number) = IsOrderFault (orders_of profile.tables) entries (fault.Order number)
FailsOn profile except entries (fault.NothingLeft number) = HasNothing profile except entries (fault.NothingLeft number)
FailsOn profile except entries (fault.TooLarge number) = HasNothing profile except entries (fault.TooLarge number)
FailsOn profile except entries fault.Memory = ⊤
FailsOn profile except entries _ = ⊥

-- ---- What an export comes to.

-- the bytes are those of these rows, and each says what stands there
pub record Say (profile : Profile) (bytes : List ℕ) (entries : List Entry) : Type 0 where
  pub rows : List SheetRow
  pub are_rows : AreRows profile.file profile.tables bytes rows
  pub say : AreEntries profile rows entries

-- what an export comes to, without the rows whose names are left out
abbrev pub IsExport : List ℕ → Profile → List (List ℕ) → List ℕ → Export → Type 0
IsExport source profile except bytes export =
    (entries : List Entry) × Say profile bytes entries × IsExportOf source profile except entries export

-- a row says nothing that can be posted, and is the first such in the file
pub record HasBadRow (profile : Profile) (bytes : List ℕ) (given : ExportFault) : Type 0 where
  pub rows : List SheetRow
  pub are_rows : AreRows profile.file profile.tables bytes rows
  pub fails : RowsFail profile rows given

abbrev pub HasFaultBehind : Profile → List (List ℕ) → List ℕ → ExportFault → Type 0
HasFaultBehind profile except bytes given =
    (entries : List Entry) × Say profile bytes entries × FailsOn profile except entries given

-- the bytes have no rows, for that fault
abbrev pub HasNoRows : Profile → List ℕ → ExportFault → Type 0
HasNoRows profile bytes given =
    (found : SheetFault) × HasSheetFault profile.file profile.tables bytes found × (given ≡ of_sheet found)

-- why an export comes to nothing
abbrev pub HasFault : Profile → List (List ℕ) → List ℕ → ExportFault → Type 0
HasFault profile except bytes (fault.NotText line) = HasNoRows profile bytes (fault.NotText line)
HasFault profile except bytes fault.NoHeader = HasNoRows profile bytes fault.NoHeader
HasFault profile except bytes (fault.BadHeader line cause) = HasNoRows profile bytes (fault.BadHeader line cause)
HasFault profile except bytes (fault.BadRow number cause) = HasNoRows profile bytes (fault.BadRow number cause)
HasFault profile except bytes fault.TooManyRows = HasNoRows profile bytes fault.TooManyRows
HasFault profile except bytes (fault.Row number given) = HasBadRow profile bytes (fault.Row number given)
HasFault profile except bytes fault.Memory = ⊤
HasFault profile except bytes given = HasFaultBehind profile except bytes given
