-- Steps of a walk over the legs at keys, from one place to the next.
use Rattle.std.specs.Prelude.{◌≡◌, ◌≢◌, ◌+◌, ◌<◌, ◌≤◌, ℕ, zero, suc, length, ℤ, ◌==◌, ◌&&◌, Bool, true, false, List, [], ◌∷◌, ◌++◌, drop, find, map, slice_get, take, Option, None, Some, Ok, Err, Result}
use Rattle.std.specs.List.{AllByRecursion, list_any}
use Rattle.std.proofs.Common.{◌⊎◌, get_or, inl, inr, refl, sym, ap, ap₂, subst, ◌∙◌, arith, append_assoc, take-append-drop}
use Rattle.std.proofs.lemmas.Bool.{and_parts}
use Rattle.std.proofs.lemmas.List.{map-append}
use Rattle.sqlite.specs.State.{HasCleanDisk, State, Survives}
use Rattle.sqlite_keyed.proofs.ListLemmas.{all-append}
use Rattle.sqlite_rules.proofs.ListLemmas.{all_has, has_found, has_got}
use Rattle.sqlite_rules.specs.Lists.{Has as HasRow}
use Rattle.lot_book.specs.Book.{IsBook}
use Rattle.lot_book.specs.Facts.{Entry}
use Rattle.lot_command.specs.Canonical.{canonical}
use Rattle.lot_command.specs.Sayable.{IsSayable}
use Rattle.lot_command.specs.declared.command.Command.{Command}
use Rattle.lot_noted.specs.Book.{noted_legs}
use Rattle.lot_noted.specs.Keys.{key_of}
use Rattle.lot_noted.specs.declared.key.LegKey.{LegKey}
use Rattle.lot_noted.proofs.HeadLemmas.{TellsApart}
use Rattle.lot_page.specs.Cursor.{Stays}
use Rattle.lot_register.specs.declared.leg.NotedLeg.{NotedLeg}
use Rattle.lot_rows.specs.Entry.{IsEntryRow, entry_cells}
use Rattle.lot_rows.specs.Leg.{IsLegRow, leg_cells}
use Rattle.lot_rows.specs.Tables.{Has, Tables}
use Rattle.lot_rows.specs.declared.entry.EntryRow.{EntryRow}
use Rattle.lot_rows.specs.declared.leg.LegRow.{LegRow}
use Rattle.lot_rows.proofs.StateLemmas.{early, survives_both, survives_same}
use Rattle.lot_stored.specs.StandFor.{StandFor}
use Rattle.lot_table.proofs.KeyLemmas.{has_mapped}
use Rattle.lot_table.specs.declared.fault.Fault.{Fault}
use Rattle.lot_table.specs.declared.fault.Fault.TheVariants.{Damaged, Device}
use Rattle.lot_walk.proofs.PlaceLemmas.{failed_after, has_still, stays_itself, stays_then}
use Rattle.lot_walk.proofs.StepLemmas.{left_then, stays_left}
use Rattle.lot_walk.specs.Step.{IsPrefix, StaysOrGoesBack, Steps, StepsOverRows}
use Rattle.lot_recall.specs.Place.{AreAt, AreEntriesOf, AreLegsOf, AreRowsAt, HasRows, HaveLegs, IsAnyNoted, IsBehindRecalled, IsBehindRecalledRows, shown_noted}
use Rattle.lot_recall.specs.Recall.{LooksUpEntry, LooksUpLegs, Notes, Recalls, entries_from, is_entry_at, is_leg_at, legs_of, recalled}
use Rattle.lot_recall.specs.declared.place.RecallPlace.{RecallPlace}
use Rattle.lot_recall.proofs.RecallLemmas.{entry_found, entry_never_lost, leg_found, leg_is, leg_never_lost, one_number, text_never_bad}

-- ---- keys

-- the key at a place, and none behind the last
pub got_key : {X : Type 0} (xs : List X) (at : ℕ) (x : X) → at < length xs → x ≡ get_or xs at x → slice_get xs at ≡ Some x
got_key [] at x low is = absurd (omega (arith, low))
got_key (y ∷ xs) zero x low is = ap Some (sym is)
got_key (y ∷ xs) (suc at) x low is = got_key xs at x (omega (arith, low)) is

pub got_end : {X : Type 0} (xs : List X) (at : ℕ) → length xs ≤ at → slice_get xs at ≡ None
got_end [] zero low = refl
got_end [] (suc at) low = refl
got_end (y ∷ xs) zero low = absurd (omega (arith, low))
got_end (y ∷ xs) (suc at) low = got_end xs at (omega (arith, low))

got_more : {X : Type 0} (xs : List X) (at : ℕ) (x : X) → slice_get xs at ≡ Some x → take (suc at) xs ≡ take at xs ++ x ∷ []
got_more [] at x is = cc
got_more (y ∷ xs) zero x is = let same : y ≡ x = cc in ap (λ z. z ∷ []) same
got_more (y ∷ xs) (suc at) x is = ap (λ l. y ∷ l) (got_more xs at x is)

suc_is : (at : ℕ) → suc at ≡ at + 1
suc_is at = omega arith

got_none : {X : Type 0} (xs : List X) (at : ℕ) → slice_get xs at ≡ None → take at xs ≡ xs
got_none [] zero is = refl
got_none [] (suc at) is = refl
got_none (y ∷ xs) zero is = cc
got_none (y ∷ xs) (suc at) is = ap (λ l. y ∷ l) (got_none xs at is)

all_dropped : {X : Type 0} (P : X → Type 0) (n : ℕ) (xs : List X) → AllByRecursion P xs → AllByRecursion P (drop n xs)
all_dropped P zero xs all = all
all_dropped P (suc n) [] all = tt
all_dropped P (suc n) (x ∷ xs) all = all_dropped P n xs all.1

-- legs at keys, each of which has one
picked : (legs : List NotedLeg) (keys : List LegKey) → AllByRecursion (HasRow (map key_of legs)) keys
    → (those : List NotedLeg) × (map key_of those ≡ keys) × AllByRecursion (HasRow legs) those
picked legs [] have = ([], refl, tt)
picked legs (key ∷ keys) have =
    let one = has_mapped key_of legs key have.0 in
    let more = picked legs keys have.1 in (one.0 ∷ more.0, ap₂ (λ k ks. k ∷ ks) (sym one.2) more.1, (one.1, more.2))

key_is : (key : LegKey) (row : LegRow) (narration : Option (List ℕ)) → is_leg_at key row ≡ true → key_of (recalled row key.day narration) ≡ key
key_is key row narration at =
    let first = and_parts (row.entry == key.entry) ((row.posting == key.posting) && (row.place == key.place)) at in
    let rest = and_parts (row.posting == key.posting) (row.place == key.place) first.1 in
    λ i. record {
      day = key.day;
      entry = one_number row.entry key.entry first.0 i;
      posting = one_number row.posting key.posting rest.0 i;
      place = one_number row.place key.place rest.1 i;
    }

-- ---- before the first key

pub no_rows : (place : RecallPlace) (tables : Tables) → place.at ≡ 0 → place.legs.rows.items ≡ [] → place.notes.rows.items ≡ []
    → IsBehindRecalledRows place tables place.keys.items []
no_rows place tables first legs notes = record {
  on = refl;
  keyed = ap (λ n. take n place.keys.items) (sym first);
  rows = tt;
  legs = subst (AreLegsOf tables) (sym legs) tt;
  notes = subst (AreEntriesOf tables) (sym notes) tt;
}

pub no_legs : (place : RecallPlace) (tables : Tables) (entries : List Entry) → IsBehindRecalledRows place tables place.keys.items [] → HaveLegs entries place.keys.items
    → IsPrefix AreAt place.keys.items entries [] × IsBehindRecalled place tables place.keys.items entries []
no_legs place tables entries rows have =
    let those = picked (noted_legs entries) place.keys.items have in (
      (those.0, record { keyed = those.1; among = those.2 }),
      record { read = rows; among = tt; have = have },
    )

-- ---- steps

abbrev pub StepsOver : RecallPlace → RecallPlace → State → State → Result (Option NotedLeg) Fault → Type 0
StepsOver = Steps shown_noted IsAnyNoted AreAt IsBehindRecalled Damaged Device

abbrev pub GivesRows : RecallPlace → RecallPlace → State → State → Result (Option NotedLeg) Fault → Type 0
GivesRows = StepsOverRows shown_noted AreRowsAt IsBehindRecalledRows

abbrev unread : Fault → Result (Unit {0}) Fault
unread fault = Err fault

abbrev unnoted : Fault → Result (Option (List ℕ)) Fault
unnoted fault = Err fault

abbrev unrecalled : Fault → Result NotedLeg Fault
unrecalled fault = Err fault

pub rows_end : (place : RecallPlace) (s : State) → slice_get place.keys.items place.at ≡ None → GivesRows place place s s (Ok None)
rows_end place s none = λ clean tables has asked given b.
    record { keyed = b.keyed ∙ ap (take place.at) (sym b.on) ∙ got_none place.keys.items place.at none ∙ b.on; rows = b.rows }

pub steps_end : (place : RecallPlace) (s : State) → slice_get place.keys.items place.at ≡ None → StepsOver place place s s (Ok None)
steps_end place s none = record {
  gives = λ clean tables entries has book stand asked given b.
      record { keyed = b.read.keyed ∙ ap (take place.at) (sym b.read.on) ∙ got_none place.keys.items place.at none ∙ b.read.on; among = b.among };
  good = tt;
  same = λ clean. stays_itself s;
  damaged = λ clean is. cc;
  failed = λ clean is. cc;
  crash = survives_same s _;
}

-- the leg of the book at a key
record AtKey (entries : List Entry) (key : LegKey) : Type 0 where
  leg : NotedLeg
  has : HasRow (noted_legs entries) leg
  is : key ≡ key_of leg

module _ (place : RecallPlace) (key : LegKey) (got : slice_get place.keys.items place.at ≡ Some key) where
  at_key : (tables : Tables) (keys : List LegKey) (entries : List Entry) (given : List NotedLeg) → IsBehindRecalled place tables keys entries given
      → AtKey entries key
  at_key tables keys entries given b =
      let among = subst (λ (ks : List LegKey). HasRow ks key) b.read.on (has_got place.keys.items place.at key got) in
      let one = has_mapped key_of (noted_legs entries) key (all_has (HasRow (map key_of (noted_legs entries))) keys key b.have among) in
      record { leg = one.0; has = one.1; is = one.2 }

  -- ---- looking the leg up fails

  pub steps_legs : (after : RecallPlace) (legs : List LegRow) (old new : State) (fault : Fault) → LooksUpLegs key place.legs.rows.items legs old new (Err fault)
      → StepsOver place after old new (Err fault)
  steps_legs after legs old new fault looks = record {
    gives = λ clean. tt;
    good = tt;
    same = λ clean. tt;
    damaged = λ clean is limit tables entries has book stand asked given b.
        let of : unread fault ≡ Err Damaged = cc in
        let at = at_key tables asked entries given b in
        leg_never_lost tables entries book stand key at.leg at.has at.is (looks.damaged clean of limit tables has stand.good.leg);
    failed = λ clean is. let of : unread fault ≡ Err Device = cc in looks.failed clean of;
    crash = looks.crash;
  }

  -- ---- looking the entry up fails

  module _ (legs : List LegRow) (old mid : State) (looked : LooksUpLegs key place.legs.rows.items legs old mid (Ok tt)) where
    pub steps_notes : (after : RecallPlace) (notes : List EntryRow) (new : State) (fault : Fault)
        → LooksUpEntry key.entry place.notes.rows.items notes mid new (Err fault) → StepsOver place after old new (Err fault)
    steps_notes after notes new fault looks = record {
      gives = λ clean. tt;
      good = tt;
      same = λ clean. tt;
      damaged = λ clean is limit tables entries has book stand asked given b.
          let of : unread fault ≡ Err Damaged = cc in
          let was = early mid new looks.crash clean in
          let at = at_key tables asked entries given b in
          entry_never_lost tables entries book stand key at.leg at.has at.is
          (looks.damaged clean of (looked.crash.limit ∙ limit) tables (has_still old mid tables (looked.same was) has) stand.good.entry);
      failed = λ clean is.
          let of : unread fault ≡ Err Device = cc in
          failed_after old mid new (looked.same (early mid new looks.crash clean)) looked.crash (looks.failed clean of);
      crash = survives_both old mid new looked.crash looks.crash;
    }

    pub notes_left : (notes : List EntryRow) (new : State) (fault : Fault) → LooksUpEntry key.entry place.notes.rows.items notes mid new (Err fault)
        → HasCleanDisk new → StaysOrGoesBack old new
    notes_left notes new fault looks clean = left_then old mid new (looked.same (early mid new looks.crash clean)) (looks.left clean)

    -- ---- both are looked up

    module _ (notes : List EntryRow) (new : State) (noted : LooksUpEntry key.entry place.notes.rows.items notes mid new (Ok tt)) where
      pub both_same : HasCleanDisk new → Stays old new
      both_same clean = stays_then old mid new (looked.same (early mid new noted.crash clean)) (noted.same clean)

      both_crash : Survives old new (λ _. ⊥)
      both_crash = survives_both old mid new looked.crash noted.crash

      module _ (clean : HasCleanDisk new) (tables : Tables) (has : Has old tables) where
        was : HasCleanDisk mid
        was = early mid new noted.crash clean

        there : Has mid tables
        there = has_still old mid tables (looked.same was) has

        legs_of_table : AreLegsOf tables place.legs.rows.items → AreLegsOf tables legs
        legs_of_table are = looked.kept was tables has are

        notes_of_table : AreEntriesOf tables place.notes.rows.items → AreEntriesOf tables notes
        notes_of_table are = noted.kept clean tables there are

        leg_there : (list_any (is_leg_at key) legs ≡ true) ⊎ (map leg_cells legs ≡ legs_of key tables.leg)
        leg_there = looked.found was tables has

        entry_there : (list_any (is_entry_at key.entry) notes ≡ true) ⊎ (map entry_cells notes ≡ entries_from key.entry tables.entry)
        entry_there = noted.found clean tables there

      -- there is no narration
      pub steps_unnoted : (after : RecallPlace) (fault : Fault) → fault ≢ Device → Notes key.entry notes (Err fault) → StepsOver place after old new (Err fault)
      steps_unnoted after fault apart says = record {
        gives = λ clean. tt;
        good = tt;
        same = λ clean. tt;
        damaged = λ clean is limit tables entries has book stand asked given b.
            let of : unnoted fault ≡ Err Damaged = cc in
            let at = at_key tables asked entries given b in
            elim (find (is_entry_at key.entry) notes) as (λ o. find (is_entry_at key.entry) notes ≡ o → ⊥) [
              | None ↦ λ none. entry_found tables entries book stand key at.leg at.has at.is notes (entry_there clean tables has) none
              | Some row ↦ λ some.
                  let found = has_found (is_entry_at key.entry) notes row some in
                  let own = all_has (λ (r : EntryRow). HasRow (map entry_cells tables.entry) (entry_cells r) × IsEntryRow r) notes row (notes_of_table clean tables has b.read.notes) found.0 in
                  text_never_bad tables entries book stand key at.leg at.has at.is row own.0 found.1 (says.damaged of row some)
            ] refl;
        failed = λ clean is. let of : fault ≡ Device = cc in absurd (apart of);
        crash = both_crash;
      }

      -- there is no leg, or no memory for it
      pub steps_unrecalled : (after : RecallPlace) (narration : Option (List ℕ)) (fault : Fault) → fault ≢ Device → Recalls key legs narration (Err fault)
          → StepsOver place after old new (Err fault)
      steps_unrecalled after narration fault apart says = record {
        gives = λ clean. tt;
        good = tt;
        same = λ clean. tt;
        damaged = λ clean is limit tables entries has book stand asked given b.
            let of : unrecalled fault ≡ Err Damaged = cc in
            let at = at_key tables asked entries given b in
            leg_found tables entries book stand key at.leg at.has at.is legs (leg_there clean tables has) (says.damaged of);
        failed = λ clean is. let of : fault ≡ Device = cc in absurd (apart of);
        crash = both_crash;
      }

      pub both_left : HasCleanDisk new → StaysOrGoesBack old new
      both_left clean = stays_left old new (both_same clean)

      -- ---- the leg is given

      module _ (leg : NotedLeg) (narration : Option (List ℕ)) (recalls : Recalls key legs narration (Ok leg)) (says : Notes key.entry notes (Ok narration))
          (after : RecallPlace) (keys_are : after.keys ≡ place.keys) (next : after.at ≡ place.at + 1) (legs_are : after.legs.rows.items ≡ legs)
          (notes_are : after.notes.rows.items ≡ notes) where
        abbrev row : LegRow
        row = recalls.gives.row

        abbrev given_leg : NotedLeg
        given_leg = recalled row key.day narration

        own_leg : HasRow legs row × (is_leg_at key row ≡ true)
        own_leg = has_found (is_leg_at key) legs row recalls.gives.found

        own_entry : HasRow notes says.says.row × (is_entry_at key.entry says.says.row ≡ true)
        own_entry = has_found (is_entry_at key.entry) notes says.says.row says.says.found

        module _ (clean : HasCleanDisk new) (tables : Tables) (has : Has old tables) (keys : List LegKey) (given : List NotedLeg)
            (b : IsBehindRecalledRows place tables keys given) where
          leg_of_table : HasRow (map leg_cells tables.leg) (leg_cells row) × IsLegRow row
          leg_of_table =
              all_has (λ (r : LegRow). HasRow (map leg_cells tables.leg) (leg_cells r) × IsLegRow r) legs row (legs_of_table clean tables has b.legs) own_leg.0

          entry_of_table : HasRow (map entry_cells tables.entry) (entry_cells says.says.row) × IsEntryRow says.says.row
          entry_of_table =
              all_has (λ (r : EntryRow). HasRow (map entry_cells tables.entry) (entry_cells r) × IsEntryRow r) notes says.says.row
              (notes_of_table clean tables has b.notes) own_entry.0

          its_entry : says.says.row.number ≡ row.entry
          its_entry =
              one_number says.says.row.number key.entry own_entry.1
              ∙ sym (one_number row.entry key.entry (and_parts (row.entry == key.entry) ((row.posting == key.posting) && (row.place == key.place)) own_leg.1).0)

          rows_next : IsBehindRecalledRows after tables keys (given ++ given_leg ∷ [])
          rows_next = record {
            on = ap (λ ks. ks.items) keys_are ∙ b.on;
            keyed =
                map-append key_of given (given_leg ∷ [])
                ∙ ap₂ (λ (front : List LegKey) (k : LegKey). front ++ k ∷ []) (b.keyed ∙ ap (take place.at) (sym b.on)) (key_is key row narration own_leg.1)
                ∙ sym (got_more place.keys.items place.at key got)
                ∙ ap₂ (λ n (ks : List LegKey). take n ks) (suc_is place.at ∙ sym next) b.on;
            rows = all-append (HasRows tables) given (given_leg ∷ []) b.rows (
              record {
                row = row;
                among = leg_of_table.0;
                says = refl;
                entry = says.says.row;
                listed = entry_of_table.0;
                number = its_entry;
                narrates = says.says.narrates;
              },
              tt,
            );
            legs = subst (AreLegsOf tables) (sym legs_are) (legs_of_table clean tables has b.legs);
            notes = subst (AreEntriesOf tables) (sym notes_are) (notes_of_table clean tables has b.notes);
          }

        rows_recalled : GivesRows place after old new (Ok (Some given_leg))
        rows_recalled = λ clean tables has asked given b. rows_next clean tables has asked given b

        pub rows_given : GivesRows place after old new (Ok (Some leg))
        rows_given = subst (λ (l : NotedLeg). GivesRows place after old new (Ok (Some l))) (sym recalls.gives.is) rows_recalled

        steps_recalled : TellsApart → StepsOver place after old new (Ok (Some given_leg))
        steps_recalled apart = record {
          gives = λ clean tables entries has book stand asked given b.
              let at = at_key tables asked entries given b in
              let own = leg_of_table clean tables has asked given b.read in
              let listed = entry_of_table clean tables has asked given b.read in
              let same : given_leg ≡ at.leg =
              leg_is tables entries book stand key at.leg at.has at.is apart row own.0 own.1 own_leg.1 says.says.row listed.0 own_entry.1 narration says.says.narrates in
              let read = rows_next clean tables has asked given b.read in
              let among = all-append (HasRow (noted_legs entries)) given (given_leg ∷ []) b.among (subst (HasRow (noted_legs entries)) (sym same) at.has, tt) in
              let rest = picked (noted_legs entries) (drop after.at asked) (all_dropped (HasRow (map key_of (noted_legs entries))) after.at asked b.have) in (
                record { read = read; among = among; have = b.have },
                (
                  rest.0,
                  record {
                    keyed = map-append key_of (given ++ given_leg ∷ []) rest.0 ∙ ap₂ (λ (f g : List LegKey). f ++ g) read.keyed rest.1 ∙ take-append-drop after.at asked;
                    among = all-append (HasRow (noted_legs entries)) (given ++ given_leg ∷ []) rest.0 among rest.2;
                  },
                ),
              );
          good = tt;
          same = λ clean. both_same clean;
          damaged = λ clean is. cc;
          failed = λ clean is. cc;
          crash = both_crash;
        }

        pub steps_given : TellsApart → StepsOver place after old new (Ok (Some leg))
        steps_given apart = subst (λ (l : NotedLeg). StepsOver place after old new (Ok (Some l))) (sym recalls.gives.is) (steps_recalled apart)
