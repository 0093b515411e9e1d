-- The table of the rows of legs, which are told as they are.
use Rattle.std.specs.Prelude.{ℕ, List, map, OnOk, Option, Result, Ok, Err}
use Rattle.std.proofs.Common.{subst, ◌∙◌}
use Rattle.std.proofs.lemmas.List.{map-id}
use Rattle.lot_activity.specs.Table.{IsEnd, Terms, fits}
use Rattle.lot_book.specs.Facts.{Entry}
use Rattle.lot_book_report.specs.Csv.{AreGood}
use Rattle.lot_book_report.specs.declared.fault.ShowFault.{ShowFault}
use Rattle.lot_legs.specs.Legs.{AreAllLegRows, AreDatedLegs}
use Rattle.lot_legs.specs.Place.{IsAnyLeg, shown_leg}
use Rattle.lot_legs.specs.declared.leg.DatedLeg.{DatedLeg}
use Rattle.lot_rows.specs.Tables.{Tables}
use Rattle.lot_sums.specs.Activity.{ShowsActivity, ShowsAllActivity, ShowsLegs}
use Rattle.lot_sums.specs.Gather.{ShowsTable}

abbrev pub same_leg : DatedLeg → DatedLeg
same_leg leg = leg

module _ (terms : Terms) where
  pub of_book : (entries : List Entry) (start now : Option (List ℕ)) (result : Result (Unit {0}) ShowFault)
      → (all : List DatedLeg) × AreDatedLegs tt entries all × ShowsTable (fits terms) (IsEnd terms) (map same_leg all) start now result
      → ShowsActivity terms entries start now result
  of_book entries start now result (all, are, shows) =
      subst (λ (legs : List DatedLeg). ShowsLegs terms legs start now result) (map-id all ∙ are) shows

  pub all_activity : (tables : Tables) (start now : Option (List ℕ)) (result : Result (Unit {0}) ShowFault)
      → OnOk result ((all : List DatedLeg) × AreAllLegRows tt tables all × AreGood shown_leg IsAnyLeg all
      × ShowsTable (fits terms) (IsEnd terms) (map same_leg all) start now result)
      → ShowsAllActivity terms tables start now result
  all_activity tables start now (Ok done) (all, are, good, shows) =
      (all, are, subst (λ (legs : List DatedLeg). ShowsLegs terms legs start now (Ok done)) (map-id all) shows)
  all_activity tables start now (Err fault) shows = tt
