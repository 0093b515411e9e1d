-- The rows that have a day, and the order in which they are judged (docs/FORMATS.md, Profiles).
use Rattle.std.specs.Prelude.{◌≡◌, ℕ, ⊤, List, filter_map, length, map, Option, Some, None, ℤ}
use Rattle.std.specs.List.Sorted.{IsPermutation, IsSorted}
use Rattle.lot_deal_read.specs.declared.says.Dated.{Dated}
use Rattle.lot_profile.specs.declared.table.Order.{Order}
use Rattle.lot_profile.specs.declared.table.Table.{Table}
use Rattle.lot_sequence.specs.Key.{keys_of, said}
use Rattle.lot_sequence.specs.Order.{IsFirstAgainst, StandInOrder, row_cmp}
use Rattle.lot_sequence.specs.declared.row.Row.{Row as Line}
use Rattle.lot_export.specs.Entries.{dated_by}
use Rattle.lot_export.specs.Named.{named_of}
use Rattle.lot_export.specs.declared.entry.Entry.{Entry}
use Rattle.lot_export.specs.declared.fault.ExportFault.{ExportFault}
use Rattle.lot_export.specs.declared.fault.ExportFault.TheVariants as fault
use Rattle.lot_export.specs.declared.named.Named.{Named}

-- ---- Rows that have a day.

-- what decides where a row is judged, and under which key
pub record PlainLine : Type 0 where
  pub number : ℕ
  pub table : ℕ
  pub day : ℤ
  pub time : Option ℕ
  pub text : List ℕ

abbrev pub plain : Line → PlainLine
plain line = record { number = line.number; table = line.table; day = line.day; time = line.time; text = line.text.now }

abbrev pub line_by : Entry → Option Dated → Option PlainLine
line_by entry None = None
line_by entry (Some dated) =
    Some (record { number = entry.number; table = entry.table; day = dated.day; time = dated.time; text = dated.text })

-- those of a row, if it has a day
abbrev pub line_of : Entry → Option PlainLine
line_of entry = line_by entry (dated_by entry.says)

-- the rows that have a day, in the order of the file
abbrev pub lines_of : List Entry → List PlainLine
lines_of entries = filter_map line_of entries

abbrev pub orders_of : List Table → List Order
orders_of tables = map (λ (table : Table). table.order) tables

-- ---- Rows in the order of judging.

-- The rows that are judged: those that have a day, in the order of judging, each with the name of its key, also those that are left
-- out. None stands against the order of its table.
pub record AreJudged (orders : List Order) (entries : List Entry) (rows : List Named) : Type 0 where
  pub lines : List Line
  pub are_lines : map plain lines ≡ lines_of entries
  pub in_order : StandInOrder orders lines (length lines)
  pub judged : List Line
  pub same : IsPermutation lines judged
  pub sorted : IsSorted (row_cmp orders) judged
  pub are : rows ≡ named_of judged (keys_of (map said judged))

-- the first row that stands against the order of its table
pub record StandsAgainst (orders : List Order) (entries : List Entry) (number : ℕ) : Type 0 where
  pub lines : List Line
  pub are_lines : map plain lines ≡ lines_of entries
  pub first : IsFirstAgainst orders lines number

abbrev pub IsOrderFault : List Order → List Entry → ExportFault → Type 0
IsOrderFault orders entries (fault.Order number) = StandsAgainst orders entries number
IsOrderFault orders entries fault.Memory = ⊤
IsOrderFault orders entries _ = ⊥
