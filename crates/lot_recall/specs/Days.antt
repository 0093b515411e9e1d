-- The place of a walk over the days of the entries of a book.
use Rattle.std.specs.Prelude.{◌≡◌, ℤ, List, map, Option, Some}
use Rattle.lot_book.specs.Facts.{Entry}
use Rattle.lot_legs.specs.Days.{day_in}
use Rattle.lot_noted.specs.Book.{days_of}
use Rattle.lot_page.specs.Cursor.{IsBehind}
use Rattle.lot_rows.specs.Entry.{entry_cells}
use Rattle.lot_rows.specs.Tables.{Tables}
use Rattle.lot_rows.specs.declared.entry.EntryRow.{EntryRow}
use Rattle.lot_recall.specs.declared.days.DaysPlace.{DaysPlace}

-- a day is told as it is, and each is good
abbrev pub shown_day : ℤ → ℤ
shown_day day = day

abbrev pub IsAnyDay : ℤ → Type 0
IsAnyDay day = Unit {0}

-- these are the days of the entries of a book, all of them
abbrev pub AreDays : Unit {0} → List Entry → List ℤ → Type 0
AreDays asked entries given = given ≡ days_of entries

-- the texts of rows begin with these days
abbrev pub day_at : EntryRow → Option ℤ
day_at row = day_in row.body

abbrev pub BeginWith : List EntryRow → List ℤ → Type 0
BeginWith rows days = map day_at rows ≡ map Some days

-- the texts of all rows of the table begin with them, whatever it stands for
abbrev pub AreDaysOfRows : Unit {0} → Tables → List ℤ → Type 0
AreDaysOfRows asked tables given = BeginWith tables.entry given

-- the place is behind rows whose texts begin with these days
pub record IsBehindDayRows (place : DaysPlace) (tables : Tables) (asked : Unit {0}) (given : List ℤ) : Type 0 where
  pub passed : List EntryRow
  pub read : IsBehind entry_cells passed tables.entry place.cursor
  pub days : BeginWith passed given

abbrev pub IsBehindDays : DaysPlace → Tables → Unit {0} → List Entry → List ℤ → Type 0
IsBehindDays place tables asked entries given = IsBehindDayRows place tables asked given
