-- What is counted of the entries of a book.
use Rattle.std.specs.Prelude.{◌≡◌, ℤ, List, length, Option, None, Some}
use Rattle.lot_page_report.specs.Parts.{all_days, later, rows_within, sooner}
use Rattle.lot_page_report.specs.declared.counted.Counted.{Counted}
use Rattle.lot_page_report.specs.declared.counted.Days.{Days}
use Rattle.lot_rows.specs.declared.entry.EntryRow.{EntryRow}
use Rattle.lot_walk.specs.Gains.{Range}

abbrev pub days_in : Option Days → Option (ℤ × ℤ)
days_in None = None
days_in (Some days) = Some (days.first, days.last)

-- the days with one more
abbrev pub days_with : Option (ℤ × ℤ) → ℤ → Option (ℤ × ℤ)
days_with None day = Some (day, day)
days_with (Some days) day = Some (sooner days.0 day, later days.1 day)

-- these rows were counted, and no other
pub record HasCounted (range : Range) (rows : List EntryRow) (counted : Counted) : Type 0 where
  pub first : counted.first ≡ range.0
  pub last : counted.last ≡ range.1
  pub count : counted.count ≡ length rows
  pub within : counted.within ≡ length (rows_within range rows)
  pub days : days_in counted.days ≡ all_days rows
