-- The report of what went into accounts and out of them, by period (docs/FORMATS.md, Activity).
use Rattle.std.specs.Prelude.{ℕ, List, OnOk, Option, Result}
use Rattle.lot_activity.specs.Table.{IsEnd, Terms, fits}
use Rattle.lot_book.specs.Facts.{Entry}
use Rattle.lot_book_report.specs.declared.fault.ShowFault.{ShowFault}
use Rattle.lot_legs.specs.Legs.{AreAllLegRows, dated_legs}
use Rattle.lot_legs.specs.declared.leg.DatedLeg.{DatedLeg}
use Rattle.lot_rows.specs.Tables.{Tables}
use Rattle.lot_sums.specs.Gather.{ShowsTable}

module _ (terms : Terms) where
  -- the table of legs is written, or nothing, or as much of it as a fault leaves
  abbrev pub ShowsLegs : List DatedLeg → Option (List ℕ) → Option (List ℕ) → Result (Unit {0}) ShowFault → Type 0
  ShowsLegs legs start now result = ShowsTable (fits terms) (IsEnd terms) legs start now result

  -- the legs are all those of the book, each on the day of its command
  abbrev pub ShowsActivity : List Entry → Option (List ℕ) → Option (List ℕ) → Result (Unit {0}) ShowFault → Type 0
  ShowsActivity entries start now result = ShowsLegs (dated_legs entries) start now result

  -- whatever the tables are, it is the table of some legs
  abbrev pub ShowsSomeActivity : Option (List ℕ) → Option (List ℕ) → Result (Unit {0}) ShowFault → Type 0
  ShowsSomeActivity start now result = (legs : List DatedLeg) × ShowsLegs legs start now result

  -- where no fault ends it, it is that of all rows of legs, each on the day with which the text of its entry begins
  abbrev pub ShowsAllActivity : Tables → Option (List ℕ) → Option (List ℕ) → Result (Unit {0}) ShowFault → Type 0
  ShowsAllActivity tables start now result =
      OnOk result ((legs : List DatedLeg) × AreAllLegRows tt tables legs × ShowsLegs legs start now result)
