-- Steps of a walk over all legs of a book with their narrations, from one place to the next.
use Rattle.std.specs.Prelude.{◌≡◌, ◌≢◌, ℕ, List, [], ◌∷◌, ◌++◌, map, MatchOption, Option, None, Some, Ok, Err, Result}
use Rattle.std.specs.List.{AllByRecursion}
use Rattle.std.proofs.Common.{inl, inr, refl, sym, ap, subst, ◌∙◌}
use Rattle.std.proofs.lemmas.List.{map-append}
use Rattle.sqlite.specs.State.{HasCleanDisk, State}
use Rattle.sqlite_keyed.proofs.ListLemmas.{all-append}
use Rattle.sqlite_rules.specs.Lists.{Has as HasRow}
use Rattle.lot_book.specs.Book.{IsBook}
use Rattle.lot_book.specs.Facts.{Entry}
use Rattle.lot_legs.specs.Days.{HasText}
use Rattle.lot_legs.specs.Legs.{AreAllLegRows, AreDatedLegs, dated_legs}
use Rattle.lot_legs.specs.Place.{IsAnyLeg, IsBehindLegRows, IsBehindLegs, IsLastText, shown_leg}
use Rattle.lot_legs.specs.declared.leg.DatedLeg.{DatedLeg}
use Rattle.lot_legs.specs.declared.place.LegsPlace.{LegsPlace}
use Rattle.lot_noted.specs.Book.{Narrates, bare, noted, noted_legs}
use Rattle.lot_noted.specs.Keys.{key_in, key_of}
use Rattle.lot_noted.specs.declared.key.LegKey.{LegKey}
use Rattle.lot_noted.proofs.BareLemmas.{bare_legs}
use Rattle.lot_noted.proofs.HeadLemmas.{TellsApart}
use Rattle.lot_register.specs.declared.leg.NotedLeg.{NotedLeg}
use Rattle.lot_rows.specs.Entry.{entry_cells}
use Rattle.lot_rows.specs.Tables.{Has, Tables}
use Rattle.lot_stored.specs.StandFor.{StandFor}
use Rattle.lot_table.proofs.KeyLemmas.{has_mapped, mapped_has}
use Rattle.lot_table.specs.declared.fault.Fault.{Fault}
use Rattle.lot_table.specs.declared.fault.Fault.TheVariants.{Damaged, Device}
use Rattle.lot_walk.proofs.StepLemmas.{stays_left}
use Rattle.lot_walk.specs.Step.{IsPrefix, StaysOrGoesBack, Steps, StepsOverRows}
use Rattle.lot_recall.specs.Noted.{AreNoted, AreNotedRows, HasNarration, IsBehindLegOf, IsBehindNoted, IsBehindNotedRows, IsKept, IsNarrated, SaysNothing, Tells}
use Rattle.lot_recall.specs.Place.{IsAnyNoted, shown_noted}
use Rattle.lot_recall.specs.declared.noted.NotedPlace.{NotedPlace}
use Rattle.lot_recall.proofs.RecallLemmas.{narration_is, number_is, text_never_bad}

-- ---- legs of a book

-- each of a list is in it
all_own : {X : Type 0} (xs : List X) (P : X → Type 0) → ((x : X) → HasRow xs x → P x) → AllByRecursion P xs
all_own [] P each = tt
all_own (x ∷ xs) P each = (each x (inl refl), all_own xs P (λ y has. each y (inr has)))

has_pushed : {X : Type 0} (before rest : List X) (x : X) → HasRow ((before ++ x ∷ []) ++ rest) x
has_pushed [] rest x = inl refl
has_pushed (y ∷ before) rest x = inr (has_pushed before rest x)

-- those that are left of legs whose first ones these are
rest_of : (all given : List NotedLeg) (rest : List DatedLeg) (P : NotedLeg → Type 0) → map bare given ++ rest ≡ map bare all → AllByRecursion P all
    → (those : List NotedLeg) × (map bare those ≡ rest) × AllByRecursion P those
rest_of all [] rest P is each = (all, sym is, each)
rest_of [] (leg ∷ given) rest P is each = cc
rest_of (x ∷ all) (leg ∷ given) rest P is each = let more : map bare given ++ rest ≡ map bare all = cc in rest_of all given rest P more each.1

all_noted : (entries : List Entry) → AllByRecursion (HasRow (noted_legs entries)) (noted_legs entries)
all_noted entries = all_own (noted_legs entries) (HasRow (noted_legs entries)) (λ leg has. has)

-- a leg of the book with its narration
pub record IsOf (entries : List Entry) (leg : DatedLeg) : Type 0 where
  pub own : NotedLeg
  pub has : HasRow (noted_legs entries) own
  pub is : leg ≡ bare own
  pub key : key_in leg ≡ key_of own

is_of : (entries : List Entry) (before rest : List DatedLeg) (leg : DatedLeg) → (before ++ leg ∷ []) ++ rest ≡ dated_legs entries → IsOf entries leg
is_of entries before rest leg is =
    let there = subst (λ (ls : List DatedLeg). HasRow ls leg) (is ∙ sym (bare_legs entries)) (has_pushed before rest leg) in
    let one = has_mapped bare (noted_legs entries) leg there in
    record { own = one.0; has = one.1; is = one.2; key = ap key_in one.2 }

-- ---- before the first leg

pub no_noted_rows : (place : NotedPlace) (tables : Tables) → place.last ≡ None → IsBehindLegRows place.legs tables tt [] → IsBehindNotedRows place tables tt []
no_noted_rows place tables none legs = record { legs = legs; notes = tt; kept = subst (IsKept tables) (sym none) tt }

pub no_noted : (place : NotedPlace) (tables : Tables) (entries : List Entry) → IsBehindNotedRows place tables tt [] → IsBehindLegs place.legs tables tt entries []
    → IsPrefix AreNoted tt entries [] × IsBehindNoted place tables tt entries []
no_noted place tables entries rows legs = (
  (noted_legs entries, record { legs = bare_legs entries; among = all_noted entries }),
  record { rows = rows; legs = legs; among = tt },
)

-- ---- the narration that is kept

-- the text of the entry, where the place of its legs stayed
pub its_text : (now place : NotedPlace) → now ≡ place → (tables : Tables) (entry : ℕ) (text : Option (List ℕ)) → IsLastText now.legs text
    → IsBehindLegOf place.legs tables entry → MatchOption text ⊥ (HasText tables.entry entry)
its_text now place same tables entry text told b =
    let here = subst (λ (p : NotedPlace). IsLastText p.legs text) same told in
    subst (λ (e : ℕ). MatchOption text ⊥ (HasText tables.entry e)) b.is_of (here tables b.asked b.given b.leg b.behind)

-- ---- steps

abbrev pub LegSteps : LegsPlace → LegsPlace → State → State → Result (Option DatedLeg) Fault → Type 0
LegSteps = Steps shown_leg IsAnyLeg AreDatedLegs IsBehindLegs Damaged Device

abbrev pub LegRows : LegsPlace → LegsPlace → State → State → Result (Option DatedLeg) Fault → Type 0
LegRows = StepsOverRows shown_leg AreAllLegRows IsBehindLegRows

abbrev pub NotedSteps : NotedPlace → NotedPlace → State → State → Result (Option NotedLeg) Fault → Type 0
NotedSteps = Steps shown_noted IsAnyNoted AreNoted IsBehindNoted Damaged Device

abbrev pub NotedRows : NotedPlace → NotedPlace → State → State → Result (Option NotedLeg) Fault → Type 0
NotedRows = StepsOverRows shown_noted AreNotedRows IsBehindNotedRows

abbrev unstepped : Fault → Result (Option DatedLeg) Fault
unstepped fault = Err fault

abbrev unnoted : Fault → Result (Option (List ℕ)) Fault
unnoted fault = Err fault

module _ (place : NotedPlace) (legs : LegsPlace) (old new : State) where
  -- behind the last leg
  pub steps_noted_end : (after : NotedPlace) → LegSteps place.legs legs old new (Ok None) → NotedSteps place after old new (Ok None)
  steps_noted_end after steps = record {
    gives = λ clean tables entries has book stand asked given b.
        record { legs = steps.gives clean tables entries has book stand asked (map bare given) b.legs; among = b.among };
    good = tt;
    same = steps.same;
    damaged = λ clean is. cc;
    failed = λ clean is. cc;
    crash = steps.crash;
  }

  pub rows_noted_end : (after : NotedPlace) → LegRows place.legs legs old new (Ok None) → NotedRows place after old new (Ok None)
  rows_noted_end after rows = λ clean tables has asked given b. record { legs = rows clean tables has asked (map bare given) b.legs; notes = b.notes }

  -- the leg isn't read
  pub steps_no_leg : (after : NotedPlace) (fault : Fault) → LegSteps place.legs legs old new (Err fault) → NotedSteps place after old new (Err fault)
  steps_no_leg after fault steps = record {
    gives = λ clean. tt;
    good = tt;
    same = λ clean. tt;
    damaged = λ clean is limit tables entries has book stand asked given b.
        let of : unstepped fault ≡ Err Damaged = cc in
        steps.damaged clean of limit tables entries has book stand asked (map bare given) b.legs;
    failed = λ clean is. let of : unstepped fault ≡ Err Device = cc in steps.failed clean of;
    crash = steps.crash;
  }

  -- ---- a leg is read

  module _ (leg : DatedLeg) (steps : LegSteps place.legs legs old new (Ok (Some leg))) where
    leg_of : HasCleanDisk new → (tables : Tables) (entries : List Entry) → Has old tables → IsBook entries → StandFor tables entries → (asked : Unit {0})
        → (given : List NotedLeg) → IsBehindNoted place tables asked entries given → IsOf entries leg
    leg_of clean tables entries has book stand asked given b =
        let step = steps.gives clean tables entries has book stand asked (map bare given) b.legs in
        is_of entries (map bare given) step.1.0 leg step.1.1

    pub leg_left : HasCleanDisk new → StaysOrGoesBack old new
    leg_left clean = stays_left old new (steps.same clean)

    behind_leg : (tables : Tables) (asked : Unit {0}) (given : List DatedLeg) → IsBehindLegRows legs tables asked (given ++ leg ∷ [])
        → IsBehindLegOf legs tables leg.entry
    behind_leg tables asked given behind = record { asked = asked; given = given; leg = leg; behind = behind; is_of = refl }

    -- it has no narration
    pub steps_no_note : (after : NotedPlace) (fault : Fault) → fault ≢ Device → (unnoted fault ≡ Err Damaged → SaysNothing leg.entry legs)
        → NotedSteps place after old new (Err fault)
    steps_no_note after fault apart bad = record {
      gives = λ clean. tt;
      good = tt;
      same = λ clean. tt;
      damaged = λ clean is limit tables entries has book stand asked given b.
          let of : unnoted fault ≡ Err Damaged = cc in
          let at = leg_of clean tables entries has book stand asked given b in
          let step = steps.gives clean tables entries has book stand asked (map bare given) b.legs in
          let nothing = bad of tables (behind_leg tables asked (map bare given) step.0.rows) in
          let row = nothing.1.row in
          text_never_bad tables entries book stand (key_in leg) at.own at.has at.key row (mapped_has entry_cells tables.entry row nothing.1.among)
          (number_is row.number leg.entry nothing.1.number) (λ command said same. nothing.2 command said (sym nothing.1.body ∙ same));
      failed = λ clean is. let of : fault ≡ Device = cc in absurd (apart of);
      crash = steps.crash;
    }

    -- ---- the leg is given

    module _ (rows : LegRows place.legs legs old new (Ok (Some leg))) (narration : Option (List ℕ)) (after : NotedPlace)
        (tells : Tells leg.entry (record place { legs = legs }) after narration) (legs_are : after.legs ≡ legs) where
      abbrev given_leg : NotedLeg
      given_leg = noted narration leg

      -- without the narrations it is the leg that was read
      pushed : (given : List NotedLeg) → map bare (given ++ given_leg ∷ []) ≡ map bare given ++ leg ∷ []
      pushed given = map-append bare given (given_leg ∷ [])

      module _ (clean : HasCleanDisk new) (tables : Tables) (has : Has old tables) (asked : Unit {0}) (given : List NotedLeg)
          (b : IsBehindNotedRows place tables asked given) where
        behind : IsBehindLegRows legs tables asked (map bare given ++ leg ∷ [])
        behind = rows clean tables has asked (map bare given) b.legs

        told : IsNarrated tables leg.entry narration × IsKept tables after.last
        told = tells tables (behind_leg tables asked (map bare given) behind) b.kept

        its : HasText tables.entry leg.entry told.0.text
        its = told.0.body

        listed : HasRow (map entry_cells tables.entry) (entry_cells its.row)
        listed = mapped_has entry_cells tables.entry its.row its.among

        narrates : Narrates its.row.body narration
        narrates = subst (λ (t : List ℕ). Narrates t narration) (sym its.body) told.0.narrates

        noted_next : IsBehindNotedRows after tables asked (given ++ given_leg ∷ [])
        noted_next = record {
          legs =
              subst (λ (ls : List DatedLeg). IsBehindLegRows after.legs tables asked ls) (sym (pushed given))
              (subst (λ (p : LegsPlace). IsBehindLegRows p tables asked (map bare given ++ leg ∷ [])) (sym legs_are) behind);
          notes = all-append (HasNarration tables) given (given_leg ∷ []) b.notes
              (record { entry = its.row; listed = listed; number = its.number; narrates = narrates }, tt);
          kept = told.1;
        }

      pub rows_noted : NotedRows place after old new (Ok (Some given_leg))
      rows_noted = λ clean tables has asked given b. noted_next clean tables has asked given b

      pub steps_noted : TellsApart → NotedSteps place after old new (Ok (Some given_leg))
      steps_noted apart = record {
        gives = λ clean tables entries has book stand asked given b.
            let step = steps.gives clean tables entries has book stand asked (map bare given) b.legs in
            let at = leg_of clean tables entries has book stand asked given b in
            let own = its clean tables has asked given b.rows in
            let note =
            narration_is tables entries book stand (key_in leg) at.own at.has at.key apart own.row (listed clean tables has asked given b.rows)
            (number_is own.row.number leg.entry own.number) narration (narrates clean tables has asked given b.rows) in
            let same : given_leg ≡ at.own = λ i. noted (note i) (at.is i) in
            let among =
            all-append (HasRow (noted_legs entries)) given (given_leg ∷ []) b.among (subst (HasRow (noted_legs entries)) (sym same) at.has, tt) in
            let all : map bare (given ++ given_leg ∷ []) ++ step.1.0 ≡ dated_legs entries =
            ap (λ (ls : List DatedLeg). ls ++ step.1.0) (pushed given) ∙ step.1.1 in
            let rest =
            rest_of (noted_legs entries) (given ++ given_leg ∷ []) step.1.0 (HasRow (noted_legs entries)) (all ∙ sym (bare_legs entries)) (all_noted entries) in (
              record {
                rows = noted_next clean tables has asked given b.rows;
                legs =
                    subst (λ (ls : List DatedLeg). IsBehindLegs after.legs tables asked entries ls) (sym (pushed given))
                    (subst (λ (p : LegsPlace). IsBehindLegs p tables asked entries (map bare given ++ leg ∷ [])) (sym legs_are) step.0);
                among = among;
              },
              (
                rest.0,
                record {
                  legs =
                      map-append bare (given ++ given_leg ∷ []) rest.0
                      ∙ ap (λ (ls : List DatedLeg). map bare (given ++ given_leg ∷ []) ++ ls) rest.1
                      ∙ all;
                  among = all-append (HasRow (noted_legs entries)) (given ++ given_leg ∷ []) rest.0 among rest.2;
                },
              ),
            );
        good = tt;
        same = λ clean. steps.same clean;
        damaged = λ clean is. cc;
        failed = λ clean is. cc;
        crash = steps.crash;
      }
