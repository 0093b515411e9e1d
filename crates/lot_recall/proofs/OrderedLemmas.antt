-- Steps of a walk over the legs of a register that the book has in the order of days, from one place to the next.
use Rattle.std.specs.Prelude.{◌≡◌, ◌≢◌, ◌-◌, true, false, cond, List, [], ◌∷◌, ◌++◌, filter, length, map, IfErr, IfOk, OnErr, Option, None, Some, Ok, Err, Result}
use Rattle.std.specs.List.Sorted.{IsSorted}
use Rattle.std.specs.Ordering.{is_lt, ordering_reverse}
use Rattle.std.specs.declared.cmp.Ordering.{Ordering}
use Rattle.std.specs.declared.cmp.Ordering.TheVariants.{Less, Equal, Greater}
use Rattle.std.proofs.Common.{arith, get_or, refl, sym, ap, subst, ◌∙◌}
use Rattle.std.proofs.Math.Seq.{get_or-append_seam}
use Rattle.std.proofs.lemmas.Bool.{true≢false}
use Rattle.std.proofs.lemmas.List.{append-nil, append_assoc, length-append, map-append}
use Rattle.std.proofs.lemmas.List.Elements.{filter-append}
use Rattle.std.proofs.lemmas.List.Kept.{IsSortedBy-push}
use Rattle.sqlite.specs.State.{HasCleanDisk, State, Survives}
use Rattle.sqlite.specs.Tree.{IsAscending}
use Rattle.sqlite_keyed.proofs.ListLemmas.{map-map}
use Rattle.lot_book.specs.Book.{IsBook}
use Rattle.lot_book.specs.Facts.{Entry}
use Rattle.lot_noted.specs.Book.{Asked, NeverFall, bare, days_of, is_asked, noted_legs, register_legs}
use Rattle.lot_noted.specs.Keys.{key_cmp, key_in, key_of}
use Rattle.lot_noted.specs.declared.key.LegKey.{LegKey}
use Rattle.lot_noted.proofs.BareLemmas.{bare_legs}
use Rattle.lot_noted.proofs.DayLemmas.{IsListedBelow, keys_total}
use Rattle.lot_page.specs.Cursor.{Stays}
use Rattle.lot_register.specs.declared.leg.NotedLeg.{NotedLeg}
use Rattle.lot_rows.specs.Tables.{Has, Tables}
use Rattle.lot_rows.proofs.StateLemmas.{early, survives_both, survives_same}
use Rattle.lot_stored.specs.StandFor.{StandFor}
use Rattle.lot_table.specs.declared.fault.Fault.{Fault}
use Rattle.lot_table.specs.declared.fault.Fault.TheVariants.{Damaged, Device, Memory}
use Rattle.lot_walk.proofs.CursorLemmas.{suffix_up}
use Rattle.lot_walk.proofs.PlaceLemmas.{failed_after, has_still, stays_itself, stays_then}
use Rattle.lot_walk.proofs.StepLemmas.{left_then, stays_left}
use Rattle.lot_walk.specs.Step.{IsPrefix, StaysOrGoesBack, Steps, StepsOverRows}
use Rattle.lot_recall.specs.Noted.{AreNoted, IsBehindNoted, IsBehindNotedRows}
use Rattle.lot_recall.specs.Ordered.{AreOrdered, AreOrderedRows, AreUp, IsBehindOrdered, IsBehindOrderedRows, IsOfLast, is_above}
use Rattle.lot_recall.specs.Scope.{owned}
use Rattle.lot_recall.specs.Place.{IsAnyNoted, shown_noted}
use Rattle.lot_recall.specs.declared.noted.NotedPlace.{NotedPlace}
use Rattle.lot_recall.specs.declared.ordered.OrderedPlace.{OrderedPlace}
use Rattle.lot_recall.proofs.NotedLemmas.{NotedRows, NotedSteps}
use Rattle.lot_recall.proofs.OneLemmas.{all_within, same_legs}

-- ---- one key more

last_at : {X : Type 0} (front : List X) (last d : X) → get_or (front ++ last ∷ []) (length (front ++ last ∷ []) - 1) d ≡ last
last_at front last d =
    let at : length (front ++ last ∷ []) - 1 ≡ length front = omega (arith, length-append front (last ∷ [])) in
    ap (λ k. get_or (front ++ last ∷ []) k d) at ∙ get_or-append_seam front last [] d

not_below : (o : Ordering) → is_lt o ≡ true → is_lt (ordering_reverse o) ≡ false
not_below Less less = refl
not_below Equal less = cc
not_below Greater less = cc

keys_push : (front : List LegKey) (last key : LegKey) → IsSorted key_cmp (front ++ last ∷ []) → is_lt (key_cmp last key) ≡ true
    → IsSorted key_cmp ((front ++ last ∷ []) ++ key ∷ [])
keys_push front last key sorted less =
    IsSortedBy-push (λ (a b : LegKey). is_lt (key_cmp a b)) (front ++ last ∷ []) key sorted
    (λ d some. ap (λ (k : LegKey). is_lt (key_cmp key k)) (last_at front last d) ∙ ap is_lt (keys_total.antisymm key last) ∙ not_below (key_cmp last key) less)

one_sorted : (key : LegKey) → IsSorted key_cmp (key ∷ [])
one_sorted key = λ k d low below. absurd (omega (arith, low, below))

up_push : (last : Option LegKey) (given : List NotedLeg) (leg : NotedLeg) → AreUp given → IsOfLast last given → is_above last (key_of leg) ≡ true
    → AreUp (given ++ leg ∷ [])
up_push None given leg up none above = subst (λ (ls : List NotedLeg). AreUp (ls ++ leg ∷ [])) (sym none) (one_sorted (key_of leg))
up_push (Some last) given leg up (front, own, is, key) above =
    let keys : map key_of given ≡ map key_of front ++ last ∷ [] =
    ap (map key_of) is ∙ map-append key_of front (own ∷ []) ∙ ap (λ (k : LegKey). map key_of front ++ k ∷ []) (sym key) in
    let all : map key_of (given ++ leg ∷ []) ≡ (map key_of front ++ last ∷ []) ++ key_of leg ∷ [] =
    map-append key_of given (leg ∷ []) ∙ ap (λ (ks : List LegKey). ks ++ key_of leg ∷ []) keys in
    subst (IsSorted key_cmp) (sym all) (keys_push (map key_of front) last (key_of leg) (subst (IsSorted key_cmp) keys up) above)

-- ---- which legs are asked for

chosen_push : (asked : Asked) (legs : List NotedLeg) (leg : NotedLeg) → is_asked asked leg ≡ true
    → filter (is_asked asked) (legs ++ leg ∷ []) ≡ filter (is_asked asked) legs ++ leg ∷ []
chosen_push asked legs leg here =
    filter-append (is_asked asked) legs (leg ∷ [])
    ∙ ap (λ b. filter (is_asked asked) legs ++ cond b (leg ∷ []) []) here

chosen_none : (asked : Asked) (leg : NotedLeg) → is_asked asked leg ≡ false → filter (is_asked asked) (leg ∷ []) ≡ []
chosen_none asked leg apart = ap (λ b. cond b (leg ∷ []) []) apart

chosen_on : (asked : Asked) (passed more given : List NotedLeg) → given ≡ filter (is_asked asked) passed → filter (is_asked asked) more ≡ []
    → given ≡ filter (is_asked asked) (passed ++ more)
chosen_on asked passed more given is none =
    is
    ∙ sym (append-nil (filter (is_asked asked) passed))
    ∙ ap (λ (ls : List NotedLeg). filter (is_asked asked) passed ++ ls) (sym none)
    ∙ sym (filter-append (is_asked asked) passed more)

-- the keys of legs are those of the legs without their narrations
same_keys : (a b : List NotedLeg) → map bare a ≡ map bare b → map key_of a ≡ map key_of b
same_keys a b same = sym (map-map key_in bare a) ∙ ap (map key_in) same ∙ map-map key_in bare b

-- in the order of their keys each leg is behind the one before
stands_above : (last : Option LegKey) (given : List NotedLeg) (leg : NotedLeg) (rest all : List NotedLeg) → IsOfLast last given
    → (given ++ leg ∷ []) ++ rest ≡ all → IsAscending IsListedBelow all → is_above last (key_of leg) ≡ true
stands_above None given leg rest all none whole up = refl
stands_above (Some last) given leg rest all (front, own, is, key) whole up =
    let split : front ++ (own ∷ leg ∷ rest) ≡ all =
    sym (append_assoc front (own ∷ []) (leg ∷ rest))
    ∙ ap (λ (ls : List NotedLeg). ls ++ leg ∷ rest) (sym is)
    ∙ sym (append_assoc given (leg ∷ []) rest)
    ∙ whole in
    let below = (suffix_up IsListedBelow front (own ∷ leg ∷ rest) all split up).0.0 in
    ap (λ (k : LegKey). is_lt (key_cmp k (key_of leg))) key ∙ ap is_lt below

-- all legs of a book with their narrations are its legs
noted_are : (entries : List Entry) → IsBook entries → (all : List NotedLeg) → AreNoted tt entries all → all ≡ noted_legs entries
noted_are entries book all are =
    same_legs entries book all (noted_legs entries) (same_keys all (noted_legs entries) (are.legs ∙ sym (bare_legs entries))) are.among
    (all_within (noted_legs entries) _ (λ leg has. has))

-- ---- before the first leg

pub none_sorted : IsSorted key_cmp []
none_sorted = λ k d low below. absurd (omega (arith, low, below))

abbrev pub none_ordered_rows : (place : OrderedPlace) (tables : Tables) → place.last ≡ None → IsBehindNotedRows place.noted tables tt []
    → IsBehindOrderedRows place tables (owned place.scope) []
none_ordered_rows place tables none rows = record {
  scope = refl;
  passed = [];
  rows = rows;
  chosen = refl;
  up = none_sorted;
  last = subst (λ (o : Option LegKey). IsOfLast o []) (sym none) refl;
}

pub none_ordered : (place : OrderedPlace) (tables : Tables) (entries : List Entry) → place.last ≡ None → IsBehindNoted place.noted tables tt entries []
    → NeverFall (days_of entries)
    → IsPrefix AreOrdered (owned place.scope) entries [] × IsBehindOrdered place tables (owned place.scope) entries []
none_ordered place tables entries none legs never_fall = (
  (filter (is_asked (owned place.scope)) (noted_legs entries), refl),
  record { rows = none_ordered_rows place tables none legs.rows; legs = legs; never_fall = never_fall },
)

-- ---- legs that aren't asked for

-- they were passed over, and nothing else was done
pub record Went (asked : Asked) (before after : NotedPlace) (old new : State) : Type 0 where
  pub rows : HasCleanDisk new → (tables : Tables) → Has old tables → (passed : List NotedLeg) → IsBehindNotedRows before tables tt passed
      → (more : List NotedLeg) × IsBehindNotedRows after tables tt (passed ++ more) × (filter (is_asked asked) more ≡ [])
  pub legs : HasCleanDisk new → (tables : Tables) (entries : List Entry) → Has old tables → IsBook entries → StandFor tables entries → (passed : List NotedLeg)
      → IsBehindNoted before tables tt entries passed
      → (more : List NotedLeg) × IsBehindNoted after tables tt entries (passed ++ more) × (filter (is_asked asked) more ≡ [])
  pub same : HasCleanDisk new → Stays old new
  pub survives : Survives old new (λ _. ⊥)

pub went_none : (asked : Asked) (place : NotedPlace) (s : State) → Went asked place place s s
went_none asked place s = record {
  rows = λ clean tables has passed b. ([], subst (IsBehindNotedRows place tables tt) (sym (append-nil passed)) b, refl);
  legs = λ clean tables entries has book stand passed b. ([], subst (IsBehindNoted place tables tt entries) (sym (append-nil passed)) b, refl);
  same = λ clean. stays_itself s;
  survives = survives_same s _;
}

abbrev pub OrderedSteps : OrderedPlace → OrderedPlace → State → State → Result (Option NotedLeg) Fault → Type 0
OrderedSteps = Steps shown_noted IsAnyNoted AreOrdered IsBehindOrdered Damaged Device

abbrev pub OrderedRows : OrderedPlace → OrderedPlace → State → State → Result (Option NotedLeg) Fault → Type 0
OrderedRows = StepsOverRows shown_noted AreOrderedRows IsBehindOrderedRows

abbrev unstepped : Fault → Result (Option NotedLeg) Fault
unstepped fault = Err fault

abbrev pub StaysInOrder : Type 0
StaysInOrder = (asked : Asked) (entries : List Entry) → NeverFall (days_of entries) → register_legs asked entries ≡ filter (is_asked asked) (noted_legs entries)

abbrev pub AreListed : Type 0
AreListed = (asked : Asked) (entries : List Entry) → IsBook entries → IsAscending IsListedBelow (register_legs asked entries)

module _ (asked : Asked) (before : NotedPlace) (mid : NotedPlace) (old now new : State) (went : Went asked before mid old now) where
  -- one more is passed over
  pub went_on : (after : NotedPlace) (leg : NotedLeg) → is_asked asked leg ≡ false → NotedSteps mid after now new (Ok (Some leg))
      → NotedRows mid after now new (Ok (Some leg)) → Went asked before after old new
  went_on after leg apart steps rows = record {
    rows = λ clean tables has passed b.
        let was = early now new steps.crash clean in
        let m = went.rows was tables has passed b in
        let next = rows clean tables (has_still old now tables (went.same was) has) tt (passed ++ m.0) m.1 in (
          m.0 ++ leg ∷ [],
          subst (IsBehindNotedRows after tables tt) (append_assoc passed m.0 (leg ∷ [])) next,
          none_more m.0 m.2,
        );
    legs = λ clean tables entries has book stand passed b.
        let was = early now new steps.crash clean in
        let m = went.legs was tables entries has book stand passed b in
        let next = steps.gives clean tables entries (has_still old now tables (went.same was) has) book stand tt (passed ++ m.0) m.1 in (
          m.0 ++ leg ∷ [],
          subst (IsBehindNoted after tables tt entries) (append_assoc passed m.0 (leg ∷ [])) next.0,
          none_more m.0 m.2,
        );
    same = λ clean. stays_then old now new (went.same (early now new steps.crash clean)) (steps.same clean);
    survives = survives_both old now new went.survives steps.crash;
  }
    where
      none_more : (more : List NotedLeg) → filter (is_asked asked) more ≡ [] → filter (is_asked asked) (more ++ leg ∷ []) ≡ []
      none_more more none =
          filter-append (is_asked asked) more (leg ∷ [])
          ∙ ap (λ (ls : List NotedLeg). ls ++ filter (is_asked asked) (leg ∷ [])) none
          ∙ chosen_none asked leg apart

-- ---- a step

-- whether a leg is asked for, by what a later place asks for
pub here_for : (place : OrderedPlace) (asked : Asked) → asked ≡ owned place.scope → (leg : NotedLeg) → is_asked asked leg ≡ true
    → is_asked (owned place.scope) leg ≡ true
here_for place asked same leg here = ap (λ (a : Asked). is_asked a leg) (sym same) ∙ here

pub apart_for : (place : OrderedPlace) (asked : Asked) → asked ≡ owned place.scope → (leg : NotedLeg) → is_asked asked leg ≡ false
    → is_asked (owned place.scope) leg ≡ false
apart_for place asked same leg apart = ap (λ (a : Asked). is_asked a leg) (sym same) ∙ apart

module _ (place : OrderedPlace) (mid : NotedPlace) (old now new : State) (went : Went (owned place.scope) place.noted mid old now) where
  -- the legs that were passed over behind those that were given
  went_for : HasCleanDisk now → (tables : Tables) (entries : List Entry) → Has old tables → IsBook entries → StandFor tables entries → (asked : Asked)
      → (given : List NotedLeg) → (b : IsBehindOrdered place tables asked entries given)
      → (more : List NotedLeg) × IsBehindNoted mid tables tt entries (b.rows.passed ++ more) × (filter (is_asked asked) more ≡ [])
  went_for was tables entries has book stand asked given b =
      let m = went.legs was tables entries has book stand b.rows.passed b.legs in
      (m.0, m.1, subst (λ (a : Asked). filter (is_asked a) m.0 ≡ []) b.rows.scope m.2)

  went_by_rows : HasCleanDisk now → (tables : Tables) → Has old tables → (asked : Asked) (given : List NotedLeg) → (b : IsBehindOrderedRows place tables asked given)
      → (more : List NotedLeg) × IsBehindNotedRows mid tables tt (b.passed ++ more) × (filter (is_asked asked) more ≡ [])
  went_by_rows was tables has asked given b =
      let m = went.rows was tables has b.passed b.rows in
      (m.0, m.1, subst (λ (a : Asked). filter (is_asked a) m.0 ≡ []) b.scope m.2)

  -- behind the last leg
  pub ordered_end : (after : OrderedPlace) (noted : NotedPlace) → NotedSteps mid noted now new (Ok None) → OrderedSteps place after old new (Ok None)
  ordered_end after noted steps = record {
    gives = λ clean tables entries has book stand asked given b.
        let was = early now new steps.crash clean in
        let m = went_for was tables entries has book stand asked given b in
        let all = steps.gives clean tables entries (has_still old now tables (went.same was) has) book stand tt (b.rows.passed ++ m.0) m.1 in
        chosen_on asked b.rows.passed m.0 given b.rows.chosen m.2 ∙ ap (filter (is_asked asked)) (noted_are entries book (b.rows.passed ++ m.0) all);
    good = tt;
    same = λ clean. stays_then old now new (went.same (early now new steps.crash clean)) (steps.same clean);
    damaged = λ clean is. cc;
    failed = λ clean is. cc;
    crash = survives_both old now new went.survives steps.crash;
  }

  pub ordered_rows_end : (after : OrderedPlace) (noted : NotedPlace) → NotedSteps mid noted now new (Ok None) → NotedRows mid noted now new (Ok None)
      → OrderedRows place after old new (Ok None)
  ordered_rows_end after noted steps rows = λ clean tables has asked given b.
      let was = early now new steps.crash clean in
      let m = went_by_rows was tables has asked given b in
      record {
        all = b.passed ++ m.0;
        rows = rows clean tables (has_still old now tables (went.same was) has) tt (b.passed ++ m.0) m.1;
        chosen = chosen_on asked b.passed m.0 given b.chosen m.2;
        up = b.up;
      }

  -- no leg is read
  pub ordered_unread : (after : OrderedPlace) (noted : NotedPlace) (fault : Fault) → NotedSteps mid noted now new (Err fault)
      → OrderedSteps place after old new (Err fault)
  ordered_unread after noted fault steps = record {
    gives = λ clean. tt;
    good = tt;
    same = λ clean. tt;
    damaged = λ clean is limit tables entries has book stand asked given b.
        let of : unstepped fault ≡ Err Damaged = cc in
        let was = early now new steps.crash clean in
        let m = went_for was tables entries has book stand asked given b in
        steps.damaged clean of (went.survives.limit ∙ limit) tables entries (has_still old now tables (went.same was) has) book stand tt (b.rows.passed ++ m.0) m.1;
    failed = λ clean is.
        let of : unstepped fault ≡ Err Device = cc in
        failed_after old now new (went.same (early now new steps.crash clean)) went.survives (steps.failed clean of);
    crash = survives_both old now new went.survives steps.crash;
  }

  pub unread_left : (noted : NotedPlace) (fault : Fault) → NotedSteps mid noted now new (Err fault) → (HasCleanDisk new → StaysOrGoesBack now new)
      → HasCleanDisk new → StaysOrGoesBack old new
  unread_left noted fault steps left clean = left_then old now new (went.same (early now new steps.crash clean)) (left clean)

  -- ---- a leg that is asked for is read

  module _ (noted : NotedPlace) (leg : NotedLeg) (steps : NotedSteps mid noted now new (Ok (Some leg))) (here : is_asked (owned place.scope) leg ≡ true) where
    whole_same : HasCleanDisk new → Stays old new
    whole_same clean = stays_then old now new (went.same (early now new steps.crash clean)) (steps.same clean)

    pub given_left : HasCleanDisk new → StaysOrGoesBack old new
    given_left clean = stays_left old new (whole_same clean)

    whole_crash : Survives old new (λ _. ⊥)
    whole_crash = survives_both old now new went.survives steps.crash

    -- the legs that are left, behind this one
    rest_for : HasCleanDisk new → (tables : Tables) (entries : List Entry) → Has old tables → IsBook entries → StandFor tables entries → (asked : Asked)
        → (given : List NotedLeg) → (b : IsBehindOrdered place tables asked entries given)
        → (passed : List NotedLeg) × IsBehindNoted noted tables tt entries passed × (given ++ leg ∷ [] ≡ filter (is_asked asked) passed)
        × (rest : List NotedLeg) × ((given ++ leg ∷ []) ++ rest ≡ filter (is_asked asked) (noted_legs entries))
    rest_for clean tables entries has book stand asked given b =
        let was = early now new steps.crash clean in
        let m = went_for was tables entries has book stand asked given b in
        let next = steps.gives clean tables entries (has_still old now tables (went.same was) has) book stand tt (b.rows.passed ++ m.0) m.1 in
        let passed : List NotedLeg = (b.rows.passed ++ m.0) ++ leg ∷ [] in
        let chosen : given ++ leg ∷ [] ≡ filter (is_asked asked) passed =
        ap (λ (ls : List NotedLeg). ls ++ leg ∷ []) (chosen_on asked b.rows.passed m.0 given b.rows.chosen m.2)
        ∙ sym (chosen_push asked (b.rows.passed ++ m.0) leg (ap (λ (a : Asked). is_asked a leg) (sym b.rows.scope) ∙ here)) in
        let rest = next.1 in (
          passed,
          next.0,
          chosen,
          filter (is_asked asked) rest.0,
          ap (λ (ls : List NotedLeg). ls ++ filter (is_asked asked) rest.0) chosen
              ∙ sym (filter-append (is_asked asked) passed rest.0)
              ∙ ap (filter (is_asked asked)) (noted_are entries book (passed ++ rest.0) rest.1),
        )

    module _ (after : OrderedPlace) (noted_is : after.noted ≡ noted) (scope : owned after.scope ≡ owned place.scope)
        (last : after.last ≡ Some (key_of leg)) (above : is_above place.last (key_of leg) ≡ true) where
      last_of : (given : List NotedLeg) → IsOfLast after.last (given ++ leg ∷ [])
      last_of given = subst (λ (o : Option LegKey). IsOfLast o (given ++ leg ∷ [])) (sym last) (given, leg, refl, refl)

      pub ordered_given : OrderedSteps place after old new (Ok (Some leg))
      ordered_given = record {
        gives = λ clean tables entries has book stand asked given b.
            let (passed, behind, chosen, rest, all) = rest_for clean tables entries has book stand asked given b in
            let legs = subst (λ (p : NotedPlace). IsBehindNoted p tables tt entries passed) (sym noted_is) behind in (
              record {
                rows = record {
                  scope = scope ∙ b.rows.scope;
                  passed = passed;
                  rows = legs.rows;
                  chosen = chosen;
                  up = up_push place.last given leg b.rows.up b.rows.last above;
                  last = last_of given;
                };
                legs = legs;
                never_fall = b.never_fall;
              },
              (rest, all),
            );
        good = tt;
        same = λ clean. whole_same clean;
        damaged = λ clean is. cc;
        failed = λ clean is. cc;
        crash = whole_crash;
      }

      pub ordered_row : NotedRows mid noted now new (Ok (Some leg)) → OrderedRows place after old new (Ok (Some leg))
      ordered_row rows = λ clean tables has asked given b.
          let was = early now new steps.crash clean in
          let m = went_by_rows was tables has asked given b in
          let behind = rows clean tables (has_still old now tables (went.same was) has) tt (b.passed ++ m.0) m.1 in
          record {
            scope = scope ∙ b.scope;
            passed = (b.passed ++ m.0) ++ leg ∷ [];
            rows = subst (λ (p : NotedPlace). IsBehindNotedRows p tables tt ((b.passed ++ m.0) ++ leg ∷ [])) (sym noted_is) behind;
            chosen =
                ap (λ (ls : List NotedLeg). ls ++ leg ∷ []) (chosen_on asked b.passed m.0 given b.chosen m.2)
                ∙ sym (chosen_push asked (b.passed ++ m.0) leg (ap (λ (a : Asked). is_asked a leg) (sym b.scope) ∙ here));
            up = up_push place.last given leg b.up b.last above;
            last = last_of given;
          }

    -- it doesn't stand behind the one before: not in a book
    pub ordered_fallen : (after : OrderedPlace) → StaysInOrder → AreListed → is_above place.last (key_of leg) ≡ false → OrderedSteps place after old new (Err Damaged)
    ordered_fallen after stays listed fallen = record {
      gives = λ clean. tt;
      good = tt;
      same = λ clean. tt;
      damaged = λ clean is limit tables entries has book stand asked given b.
          let (passed, behind, chosen, rest, all) = rest_for clean tables entries has book stand asked given b in
          let up = subst (IsAscending IsListedBelow) (stays asked entries b.never_fall) (listed asked entries book) in
          true≢false (sym (stands_above place.last given leg rest (filter (is_asked asked) (noted_legs entries)) b.rows.last all up) ∙ fallen);
      failed = λ clean is. cc;
      crash = whole_crash;
    }

    -- what becomes of it, by what is given
    module _ (after : OrderedPlace) (noted_is : after.noted ≡ noted) (scope : owned after.scope ≡ owned place.scope)
        (last : Option LegKey) (same : last ≡ place.last) where
      abbrev pub Gives : Option NotedLeg → Type 0
      Gives found = (found ≡ Some leg) × (after.last ≡ Some (key_of leg)) × (is_above last (key_of leg) ≡ true)

      abbrev pub Refuses : Fault → Type 0
      Refuses fault = (fault ≡ Damaged) × (is_above last (key_of leg) ≡ false)

      pub ordered_by : (result : Result (Option NotedLeg) Fault) → IfOk result Gives → IfErr result Refuses → StaysInOrder → AreListed
          → OrderedSteps place after old new result
      ordered_by (Ok found) gives refuses stays listed =
          subst (λ (f : Option NotedLeg). OrderedSteps place after old new (Ok f)) (sym gives.0)
          (ordered_given after noted_is scope gives.1 (ap (λ (o : Option LegKey). is_above o (key_of leg)) (sym same) ∙ gives.2))
      ordered_by (Err fault) gives refuses stays listed =
          subst (λ (f : Fault). OrderedSteps place after old new (Err f)) (sym refuses.0)
          (ordered_fallen after stays listed (ap (λ (o : Option LegKey). is_above o (key_of leg)) (sym same) ∙ refuses.1))

      pub row_by : NotedRows mid noted now new (Ok (Some leg)) → (result : Result (Option NotedLeg) Fault) → IfOk result Gives → OrderedRows place after old new result
      row_by rows (Ok found) gives =
          subst (λ (f : Option NotedLeg). OrderedRows place after old new (Ok f)) (sym gives.0)
          (ordered_row after noted_is scope gives.1 (ap (λ (o : Option LegKey). is_above o (key_of leg)) (sym same) ∙ gives.2) rows)
      row_by rows (Err fault) gives = λ clean. tt

      pub left_by : (result : Result (Option NotedLeg) Fault) → HasCleanDisk new → OnErr result (StaysOrGoesBack old new)
      left_by (Ok found) clean = tt
      left_by (Err fault) clean = given_left clean

-- more legs than can be counted
pub ordered_full : (place after : OrderedPlace) (mid : NotedPlace) (old new : State) → Went (owned place.scope) place.noted mid old new
    → OrderedSteps place after old new (Err Memory)
ordered_full place after mid old new went = record {
  gives = λ clean. tt;
  good = tt;
  same = λ clean. tt;
  damaged = λ clean is. cc;
  failed = λ clean is. cc;
  crash = went.survives;
}

pub full_left : (asked : Asked) (before mid : NotedPlace) (old new : State) → Went asked before mid old new → HasCleanDisk new → StaysOrGoesBack old new
full_left asked before mid old new went clean = stays_left old new (went.same clean)
