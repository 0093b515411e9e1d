-- The table of a statement and the rows of legs, which are told as they are.
use Rattle.std.specs.Prelude.{ℕ, List, map, OnOk, Option, Result, Ok, Err}
use Rattle.std.proofs.Common.{subst, ◌∙◌}
use Rattle.std.proofs.lemmas.List.{map-id}
use Rattle.lot_book.specs.Facts.{Entry}
use Rattle.lot_book_report.specs.Csv.{AreGood}
use Rattle.lot_book_report.specs.declared.fault.ShowFault.{ShowFault}
use Rattle.lot_legs.specs.Legs.{AreAllLegRows, AreDatedLegs}
use Rattle.lot_legs.specs.Place.{IsAnyLeg, shown_leg}
use Rattle.lot_legs.specs.declared.leg.DatedLeg.{DatedLeg}
use Rattle.lot_reconcile.specs.Table.{IsEnd, IsTable, Terms, fits}
use Rattle.lot_reconcile.specs.declared.table.Reconciliation.{Reconciliation}
use Rattle.lot_rows.specs.Tables.{Tables}
use Rattle.lot_sums.proofs.ActivityLemmas.{same_leg}
use Rattle.lot_sums.specs.Gather.{ShowsTable}
use Rattle.lot_sums.specs.Reconciliation.{HasAllLegs, ShowsAllReconciliation, ShowsDifferences, ShowsReconciliation}

module _ (terms : Terms) where
  pub of_book : (entries : List Entry) (start now : Option (List ℕ)) (result : Result (Unit {0}) ShowFault)
      → (all : List DatedLeg) × AreDatedLegs tt entries all × ShowsTable (fits terms) (IsEnd terms) (map same_leg all) start now result
      → ShowsReconciliation terms entries start now result
  of_book entries start now result (all, are, shows) =
      subst (λ (legs : List DatedLeg). ShowsDifferences terms legs start now result) (map-id all ∙ are) shows

  pub taken_of_book : (entries : List Entry) (table : Reconciliation) (result : Result (Unit {0}) ShowFault)
      → OnOk result ((all : List DatedLeg) × AreDatedLegs tt entries all × IsTable terms (map same_leg all) table)
      → HasAllLegs terms entries table result
  taken_of_book entries table (Ok done) (all, are, taken) = subst (λ (legs : List DatedLeg). IsTable terms legs table) (map-id all ∙ are) taken
  taken_of_book entries table (Err fault) taken = tt

  pub all_differences : (tables : Tables) (start now : Option (List ℕ)) (result : Result (Unit {0}) ShowFault)
      → OnOk result ((all : List DatedLeg) × AreAllLegRows tt tables all × AreGood shown_leg IsAnyLeg all
      × ShowsTable (fits terms) (IsEnd terms) (map same_leg all) start now result)
      → ShowsAllReconciliation terms tables start now result
  all_differences tables start now (Ok done) (all, are, good, shows) =
      (all, are, subst (λ (legs : List DatedLeg). ShowsDifferences terms legs start now (Ok done)) (map-id all) shows)
  all_differences tables start now (Err fault) shows = tt
