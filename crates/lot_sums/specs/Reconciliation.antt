-- The report of what a statement and a book differ in (docs/FORMATS.md, Reconciling).
use Rattle.std.specs.Prelude.{ℕ, List, OnOk, Option, Result}
use Rattle.lot_book.specs.Facts.{Entry}
use Rattle.lot_book_report.specs.declared.fault.ShowFault.{ShowFault}
use Rattle.lot_legs.specs.Legs.{AreAllLegRows, dated_legs}
use Rattle.lot_legs.specs.declared.leg.DatedLeg.{DatedLeg}
use Rattle.lot_reconcile.specs.Table.{IsEnd, IsTable, Terms, fits}
use Rattle.lot_reconcile.specs.declared.table.Reconciliation.{Reconciliation}
use Rattle.lot_rows.specs.Tables.{Tables}
use Rattle.lot_sums.specs.Gather.{ShowsTable}

module _ (terms : Terms) where
  -- the table of a statement and legs is written, or nothing, or as much of it as a fault leaves
  abbrev pub ShowsDifferences : List DatedLeg → Option (List ℕ) → Option (List ℕ) → Result (Unit {0}) ShowFault → Type 0
  ShowsDifferences legs start now result = ShowsTable (fits terms) (IsEnd terms) legs start now result

  -- the legs are all those of the book
  abbrev pub ShowsReconciliation : List Entry → Option (List ℕ) → Option (List ℕ) → Result (Unit {0}) ShowFault → Type 0
  ShowsReconciliation entries start now result = ShowsDifferences (dated_legs entries) start now result

  -- where no fault ends it, the table has taken them
  abbrev pub HasAllLegs : List Entry → Reconciliation → Result (Unit {0}) ShowFault → Type 0
  HasAllLegs entries table result = OnOk result (IsTable terms (dated_legs entries) table)

  -- whatever the tables are, the table is that of some legs
  abbrev pub ShowsSomeReconciliation : Option (List ℕ) → Option (List ℕ) → Result (Unit {0}) ShowFault → Type 0
  ShowsSomeReconciliation start now result = (legs : List DatedLeg) × ShowsDifferences legs start now result

  -- where no fault ends it, it is that of all rows of legs, each on the day with which the text of its entry begins
  abbrev pub ShowsAllReconciliation : Tables → Option (List ℕ) → Option (List ℕ) → Result (Unit {0}) ShowFault → Type 0
  ShowsAllReconciliation tables start now result =
      OnOk result ((legs : List DatedLeg) × AreAllLegRows tt tables legs × ShowsDifferences legs start now result)
