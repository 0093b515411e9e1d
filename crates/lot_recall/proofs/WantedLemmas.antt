-- A step of a walk over the legs of a register is one over those at keys, or over those that the book has in the order of days.
use Rattle.std.specs.Prelude.{◌≡◌, List, ◌∷◌, ◌++◌, [], Option, None, Some, Ok, Err, Result}
use Rattle.std.proofs.Common.{inl, inr, refl, sym, subst}
use Rattle.sqlite.specs.State.{State}
use Rattle.lot_book.specs.Facts.{Entry}
use Rattle.lot_noted.specs.Book.{Asked}
use Rattle.lot_noted.specs.declared.key.LegKey.{LegKey}
use Rattle.lot_register.specs.declared.leg.NotedLeg.{NotedLeg}
use Rattle.lot_rows.specs.Tables.{Tables}
use Rattle.lot_table.specs.declared.fault.Fault.{Fault}
use Rattle.lot_table.specs.declared.fault.Fault.TheVariants.{Damaged, Device}
use Rattle.lot_walk.specs.Step.{GivesOfRows, StepGives, Steps, StepsOverRows}
use Rattle.lot_recall.specs.Ordered.{AreOrdered, AreOrderedRows, IsBehindOrdered, IsBehindOrderedRows}
use Rattle.lot_recall.specs.Place.{AreAt, AreRowsAt, IsAnyNoted, IsBehindRecalled, IsBehindRecalledRows, shown_noted}
use Rattle.lot_recall.specs.Wanted.{AreWanted, AreWantedRows, IsBehindWanted, IsBehindWantedRows, Wanted}
use Rattle.lot_recall.specs.declared.ordered.OrderedPlace.{OrderedPlace}
use Rattle.lot_recall.specs.declared.place.RecallPlace.{RecallPlace}
use Rattle.lot_recall.specs.declared.register.RegisterPlace.{RegisterPlace}
use Rattle.lot_recall.specs.declared.register.RegisterPlace.TheVariants.{AtKeys, InOrder}

abbrev pub WantedSteps : RegisterPlace → RegisterPlace → State → State → Result (Option NotedLeg) Fault → Type 0
WantedSteps = Steps shown_noted IsAnyNoted AreWanted IsBehindWanted Damaged Device

abbrev pub WantedRows : RegisterPlace → RegisterPlace → State → State → Result (Option NotedLeg) Fault → Type 0
WantedRows = StepsOverRows shown_noted AreWantedRows IsBehindWantedRows

-- ---- the legs of a book

-- one of the two places, with what is asked of it
module _ {P A : Type 0} (AreAll : A → List Entry → List NotedLeg → Type 0) (IsBehind : P → Tables → A → List Entry → List NotedLeg → Type 0)
    (to : P → RegisterPlace) (wants : A → Wanted)
    (taken : (place : P) (tables : Tables) (wanted : Wanted) (entries : List Entry) (given : List NotedLeg) → IsBehindWanted (to place) tables wanted entries given
    → (asked : A) × (wanted ≡ wants asked) × IsBehind place tables asked entries given)
    (behind : (place : P) (tables : Tables) (asked : A) (entries : List Entry) (given : List NotedLeg) → IsBehind place tables asked entries given
    → IsBehindWanted (to place) tables (wants asked) entries given)
    (all : (asked : A) (entries : List Entry) (given : List NotedLeg) → AreAll asked entries given → AreWanted (wants asked) entries given) where
  one_found : (after : P) (tables : Tables) (asked : A) (entries : List Entry) (given : List NotedLeg) (found : Option NotedLeg)
      → StepGives shown_noted IsAnyNoted AreAll IsBehind after tables asked entries given found
      → StepGives shown_noted IsAnyNoted AreWanted IsBehindWanted (to after) tables (wants asked) entries given found
  one_found after tables asked entries given (Some leg) (there, (rest, whole)) =
      (behind after tables asked entries (given ++ leg ∷ []) there, (rest, all asked entries ((given ++ leg ∷ []) ++ rest) whole))
  one_found after tables asked entries given None whole = all asked entries given whole

  one_step : (before after : P) (old new : State) (result : Result (Option NotedLeg) Fault)
      → Steps shown_noted IsAnyNoted AreAll IsBehind Damaged Device before after old new result → WantedSteps (to before) (to after) old new result
  one_step before after old new (Ok found) steps = record {
    gives = λ clean tables entries has book stand wanted given b.
        let (asked, is, at) = taken before tables wanted entries given b in
        subst (λ w. StepGives shown_noted IsAnyNoted AreWanted IsBehindWanted (to after) tables w entries given found) (sym is)
        (one_found after tables asked entries given found (steps.gives clean tables entries has book stand asked given at));
    good = steps.good;
    same = steps.same;
    damaged = λ clean is. cc;
    failed = steps.failed;
    crash = steps.crash;
  }
  one_step before after old new (Err fault) steps = record {
    gives = λ clean. tt;
    good = tt;
    same = λ clean. tt;
    damaged = λ clean is limit tables entries has book stand wanted given b.
        let (asked, same, at) = taken before tables wanted entries given b in
        steps.damaged clean is limit tables entries has book stand asked given at;
    failed = steps.failed;
    crash = steps.crash;
  }

-- ---- the rows of the tables

module _ {P A : Type 0} (AreAll : A → Tables → List NotedLeg → Type 0) (IsBehind : P → Tables → A → List NotedLeg → Type 0)
    (to : P → RegisterPlace) (wants : A → Wanted)
    (taken : (place : P) (tables : Tables) (wanted : Wanted) (given : List NotedLeg) → IsBehindWantedRows (to place) tables wanted given
    → (asked : A) × (wanted ≡ wants asked) × IsBehind place tables asked given)
    (behind : (place : P) (tables : Tables) (asked : A) (given : List NotedLeg) → IsBehind place tables asked given
    → IsBehindWantedRows (to place) tables (wants asked) given)
    (all : (asked : A) (tables : Tables) (given : List NotedLeg) → AreAll asked tables given → AreWantedRows (wants asked) tables given) where
  row_found : (after : P) (tables : Tables) (asked : A) (given : List NotedLeg) (found : Option NotedLeg)
      → GivesOfRows shown_noted AreAll IsBehind after tables asked given found
      → GivesOfRows shown_noted AreWantedRows IsBehindWantedRows (to after) tables (wants asked) given found
  row_found after tables asked given (Some leg) there = behind after tables asked (given ++ leg ∷ []) there
  row_found after tables asked given None whole = all asked tables given whole

  one_row : (before after : P) (old new : State) (result : Result (Option NotedLeg) Fault) → StepsOverRows shown_noted AreAll IsBehind before after old new result
      → WantedRows (to before) (to after) old new result
  one_row before after old new (Ok found) steps = λ clean tables has wanted given b.
      let (asked, is, at) = taken before tables wanted given b in
      subst (λ w. GivesOfRows shown_noted AreWantedRows IsBehindWantedRows (to after) tables w given found) (sym is)
      (row_found after tables asked given found (steps clean tables has asked given at))
  one_row before after old new (Err fault) steps = λ clean. tt

-- ---- at keys

keys_taken : (place : RecallPlace) (tables : Tables) (wanted : Wanted) (entries : List Entry) (given : List NotedLeg)
    → IsBehindWanted (AtKeys place) tables wanted entries given
    → (keys : List LegKey) × (wanted ≡ inl keys) × IsBehindRecalled place tables keys entries given
keys_taken place tables (inl keys) entries given b = (keys, refl, b)
keys_taken place tables (inr asked) entries given b = absurd b

key_rows_taken : (place : RecallPlace) (tables : Tables) (wanted : Wanted) (given : List NotedLeg) → IsBehindWantedRows (AtKeys place) tables wanted given
    → (keys : List LegKey) × (wanted ≡ inl keys) × IsBehindRecalledRows place tables keys given
key_rows_taken place tables (inl keys) given b = (keys, refl, b)
key_rows_taken place tables (inr asked) given b = absurd b

pub key_step : (before after : RecallPlace) (old new : State) (result : Result (Option NotedLeg) Fault)
    → Steps shown_noted IsAnyNoted AreAt IsBehindRecalled Damaged Device before after old new result → WantedSteps (AtKeys before) (AtKeys after) old new result
key_step =
    one_step AreAt IsBehindRecalled (λ place. AtKeys place) (λ keys. inl keys) keys_taken (λ place tables keys entries given b. b) (λ keys entries given are. are)

pub key_row : (before after : RecallPlace) (old new : State) (result : Result (Option NotedLeg) Fault)
    → StepsOverRows shown_noted AreRowsAt IsBehindRecalledRows before after old new result → WantedRows (AtKeys before) (AtKeys after) old new result
key_row =
    one_row AreRowsAt IsBehindRecalledRows (λ place. AtKeys place) (λ keys. inl keys) key_rows_taken (λ place tables keys given b. b) (λ keys tables given are. are)

-- ---- in the order of days

order_taken : (place : OrderedPlace) (tables : Tables) (wanted : Wanted) (entries : List Entry) (given : List NotedLeg)
    → IsBehindWanted (InOrder place) tables wanted entries given → (asked : Asked) × (wanted ≡ inr asked) × IsBehindOrdered place tables asked entries given
order_taken place tables (inl keys) entries given b = absurd b
order_taken place tables (inr asked) entries given b = (asked, refl, b)

order_rows_taken : (place : OrderedPlace) (tables : Tables) (wanted : Wanted) (given : List NotedLeg) → IsBehindWantedRows (InOrder place) tables wanted given
    → (asked : Asked) × (wanted ≡ inr asked) × IsBehindOrderedRows place tables asked given
order_rows_taken place tables (inl keys) given b = absurd b
order_rows_taken place tables (inr asked) given b = (asked, refl, b)

pub order_step : (before after : OrderedPlace) (old new : State) (result : Result (Option NotedLeg) Fault)
    → Steps shown_noted IsAnyNoted AreOrdered IsBehindOrdered Damaged Device before after old new result → WantedSteps (InOrder before) (InOrder after) old new result
order_step =
    one_step AreOrdered IsBehindOrdered (λ place. InOrder place) (λ asked. inr asked) order_taken (λ place tables asked entries given b. b)
    (λ asked entries given are. are)

pub order_row : (before after : OrderedPlace) (old new : State) (result : Result (Option NotedLeg) Fault)
    → StepsOverRows shown_noted AreOrderedRows IsBehindOrderedRows before after old new result → WantedRows (InOrder before) (InOrder after) old new result
order_row =
    one_row AreOrderedRows IsBehindOrderedRows (λ place. InOrder place) (λ asked. inr asked) order_rows_taken (λ place tables asked given b. b)
    (λ asked tables given are. are)
