-- The line that reports why a broker's export gives no commands, and the status (docs/FORMATS.md, Faults).
use Rattle.std.specs.Prelude.{List, ℕ, [], ◌++◌, codes, decimal}
use Rattle.lot_export.specs.declared.fault.ExportFault.{ExportFault}
use Rattle.lot_export.specs.declared.fault.ExportFault.TheVariants as fault
use Rattle.lot_report.specs.Printed.{line}
use Rattle.lot_roles.specs.declared.fault.RowFault.{RowFault}
use Rattle.lot_roles.specs.declared.fault.RowFault.TheVariants as saying
use Rattle.lot_sheet.specs.declared.fault.NameCause.{NameCause}
use Rattle.lot_sheet.specs.declared.fault.NameCause.TheVariants as name
use Rattle.lot_sheet.specs.declared.fault.RowCause.{RowCause}
use Rattle.lot_sheet.specs.declared.fault.RowCause.TheVariants as row
use Rattle.lot_stream.specs.declared.status.Status.{Status}
use Rattle.lot_stream.specs.declared.status.Status.TheVariants.{BadInput, Stopped}

-- ---- causes

abbrev pub name_of_name : NameCause → List ℕ
name_of_name name.Missing = codes "Missing"
name_of_name name.Twice = codes "Twice"

abbrev pub name_of_row : RowCause → List ℕ
name_of_row row.NoTable = codes "NoTable"
name_of_row (row.TwoTables first second) = codes "TwoTables"
name_of_row row.Longer = codes "Length"

abbrev pub name_of_saying : RowFault → List ℕ
name_of_saying saying.NoKind = codes "NoKind"
name_of_saying (saying.TwoKinds first second) = codes "TwoKinds"
name_of_saying (saying.Missing role) = codes "Missing"
name_of_saying (saying.NotNumber role) = codes "Number"
name_of_saying (saying.TooManyDecimals role) = codes "Decimals"
name_of_saying (saying.TooLarge role) = codes "Range"
name_of_saying (saying.BelowZero role) = codes "BelowZero"
name_of_saying (saying.NotCommodity role) = codes "Commodity"
name_of_saying (saying.NotDay role) = codes "Day"
name_of_saying saying.NotTime = codes "Time"
name_of_saying (saying.NoAccount role) = codes "NoAccount"
name_of_saying (saying.BadAccount role) = codes "Account"
name_of_saying saying.NotRatio = codes "Ratio"
name_of_saying saying.RatioTooLarge = codes "RatioTooLarge"
name_of_saying saying.NothingAdded = codes "NothingAdded"
name_of_saying saying.Signs = codes "Signs"
name_of_saying saying.Disagree = codes "Disagree"
name_of_saying saying.RateZero = codes "Rate"
name_of_saying saying.TaxSign = codes "TaxSign"
name_of_saying saying.BookedAtOdds = codes "Booked"
name_of_saying saying.BookedSign = codes "BookedSign"
name_of_saying saying.SameCurrency = codes "SameCurrency"
name_of_saying saying.CostDayLater = codes "CostDay"
name_of_saying saying.PriceApart = codes "PriceApart"
name_of_saying saying.PriceSign = codes "PriceSign"
name_of_saying saying.CancelledSale = codes "CancelledSale"
name_of_saying saying.Memory = codes "Memory"

-- ---- the line

-- the line of a fault of the line or the row of that number
abbrev pub numbered : List ℕ → ℕ → List ℕ → List ℕ → List ℕ
numbered place number code cause = line (codes "fault " ++ (place ++ (decimal number ++ (code ++ cause))))

abbrev pub export_line : ExportFault → List ℕ
export_line (fault.NotText number) = numbered (codes "line ") number (codes " C5 NotText") []
export_line fault.NoHeader = line (codes "fault header C1 BadHeader")
export_line (fault.BadHeader number cause) = numbered (codes "line ") number (codes " C1 BadHeader ") (name_of_name cause)
export_line (fault.BadRow number cause) = numbered (codes "row ") number (codes " C2 BadRow ") (name_of_row cause)
export_line fault.TooManyRows = line (codes "fault C3 TooManyRows")
export_line (fault.Row number cause) = numbered (codes "row ") number (codes " C2 BadRow ") (name_of_saying cause)
export_line (fault.Order number) = numbered (codes "row ") number (codes " C6 AgainstOrder") []
export_line (fault.NothingLeft number) = numbered (codes "row ") number (codes " C7 NoPurchase") []
export_line (fault.TooLarge number) = numbered (codes "row ") number (codes " C4 InexactAmount") []
export_line fault.Memory = line (codes "fault Memory")

-- ---- the status

-- where memory ends, the action is stopped; every other fault is the input's
abbrev pub status_of_export : ExportFault → Status
status_of_export fault.Memory = Stopped
status_of_export _ = BadInput
