-- Where a walk over the legs of a register begins.
use Rattle.std.specs.Prelude.{◌≡◌, IfErr, IfOk, Result, Ok, Err, Bool, true, false, cond, List, [], ◌∷◌, filter, map}
use Rattle.std.specs.List.{AllByRecursion}
use Rattle.std.proofs.Common.{inl, inr, refl, sym, subst, ◌∙◌}
use Rattle.std.proofs.lemmas.Result.{IfOk-weaker}
use Rattle.sqlite.specs.Order.{Row}
use Rattle.sqlite.specs.Store.{Ghosts}
use Rattle.sqlite_keyed.proofs.ListLemmas.{IsPermutation-same}
use Rattle.sqlite_rules.proofs.ListLemmas.{all_has}
use Rattle.sqlite_rules.specs.Lists.{Has as HasRow}
use Rattle.lot_book.specs.Book.{IsBook}
use Rattle.lot_book.specs.Facts.{Entry}
use Rattle.lot_book_report.proofs.ReadLemmas.{reads_short, was_read}
use Rattle.lot_book_report.specs.Show.{ReadsBook}
use Rattle.lot_book_report.specs.declared.fault.ShowFault.{ShowFault}
use Rattle.lot_book_report.specs.declared.fault.ShowFault.TheVariants.{Walk as AtWalk}
use Rattle.lot_legs.specs.Legs.{row_in}
use Rattle.lot_noted.specs.Book.{Asked, NeverFall, bare, days_of, is_asked, noted_legs, register_legs}
use Rattle.lot_noted.specs.Keys.{asked_keys, key_of}
use Rattle.lot_noted.specs.declared.key.LegKey.{LegKey}
use Rattle.lot_noted.proofs.BareLemmas.{keys_of_asked}
use Rattle.lot_recall.specs.Noted.{AreNotedRows, HasNarration}
use Rattle.lot_recall.specs.Ordered.{AreOrdered, AreOrderedRows, IsBehindOrdered, IsBehindOrderedRows}
use Rattle.lot_recall.specs.Place.{AreAt, HasRows, HaveLegs, IsBehindRecalled, IsBehindRecalledRows}
use Rattle.lot_recall.specs.declared.ordered.OrderedPlace.{OrderedPlace}
use Rattle.lot_recall.specs.declared.place.RecallPlace.{RecallPlace}
use Rattle.lot_recall.specs.declared.register.RegisterPlace.{RegisterPlace}
use Rattle.lot_recall.specs.declared.register.RegisterPlace.TheVariants.{AtKeys, InOrder}
use Rattle.lot_recall.proofs.OneLemmas.{all_within}
use Rattle.lot_register.specs.declared.leg.NotedLeg.{NotedLeg}
use Rattle.lot_register_report.specs.Show.{AreKeysOf, AreKeysOfRows, AreLegsOfRows, BeginsLegs, BeginsRows, IsOfKeys}
use Rattle.lot_register_report.proofs.KeyLemmas.{made_reads, was_usable}
use Rattle.lot_register_report.proofs.LegLemmas.{have_legs, legs_are}
use Rattle.lot_rows.specs.Leg.{leg_cells}
use Rattle.lot_rows.specs.Tables.{Tables}
use Rattle.lot_store.specs.declared.book.Book.{Book}
use Rattle.lot_store.specs.declared.fault.StoreFault.TheVariants.{Memory}
use Rattle.lot_store.specs.declared.walk.WalkFault.TheVariants.{Failed}
use Rattle.lot_stored.specs.StandFor.{StandFor}
use Rattle.lot_table.proofs.KeyLemmas.{mapped_has}
use Rattle.lot_walk.specs.Step.{IsPrefix}

-- ---- at keys

pub at_keys : (asked : Asked) (entries : List Entry) → IsBook entries → (keys : List LegKey) → AreKeysOf asked entries keys → (place : RecallPlace)
    → ((tables : Tables) (entries : List Entry) → StandFor tables entries → HaveLegs entries keys
    → IsPrefix AreAt keys entries [] × IsBehindRecalled place tables keys entries [])
    → BeginsLegs asked entries (AtKeys place)
at_keys asked entries book keys are place begun = record {
  wanted = inl keys;
  begins = λ tables stand. begun tables entries stand (have_legs asked entries book keys are);
  are = λ legs at. legs_are asked entries book keys are legs at;
}

pub rows_at_keys : (asked : Asked) (tables : Tables) (keys : List LegKey) → AreKeysOfRows asked tables keys → (place : RecallPlace)
    → ((tables : Tables) → IsBehindRecalledRows place tables keys []) → BeginsRows asked tables (AtKeys place)
rows_at_keys asked tables keys are place begun = record {
  wanted = inl keys;
  begins = begun tables;
  are = λ legs at. (keys, are, at);
}

-- ---- in the order of days

pub begins_in_order : (asked : Asked) (entries : List Entry) → NeverFall (days_of entries) → (place : OrderedPlace)
    → ((tables : Tables) (entries : List Entry) → StandFor tables entries → NeverFall (days_of entries)
    → IsPrefix AreOrdered asked entries [] × IsBehindOrdered place tables asked entries [])
    → register_legs asked entries ≡ filter (is_asked asked) (noted_legs entries) → BeginsLegs asked entries (InOrder place)
begins_in_order asked entries never_fall place begun stay = record {
  wanted = inr asked;
  begins = λ tables stand. begun tables entries stand never_fall;
  are = λ legs are. are ∙ sym stay;
}

all_chosen : {X : Type 0} (P : X → Type 0) (p : X → Bool) (xs : List X) → AllByRecursion P xs → AllByRecursion P (filter p xs)
all_chosen P p [] all = tt
all_chosen P p (x ∷ xs) all =
    elim (p x) as (λ b. AllByRecursion P (cond b (x ∷ filter p xs) (filter p xs))) [
      | true ↦ (all.0, all_chosen P p xs all.1)
      | false ↦ all_chosen P p xs all.1
    ]

noted_rows : (tables : Tables) (all : List NotedLeg) → AreNotedRows tt tables all → AllByRecursion (HasRows tables) all
noted_rows tables all are = all_within all (HasRows tables) (λ leg has.
    let note = all_has (HasNarration tables) all leg are.notes has in
    let listed : HasRow (map leg_cells (map row_in (map bare all))) (leg_cells (row_in (bare leg))) =
    mapped_has leg_cells (map row_in (map bare all)) (row_in (bare leg)) (mapped_has row_in (map bare all) (bare leg) (mapped_has bare all leg has)) in
    record {
      row = row_in (bare leg);
      among = subst (λ (rows : List Row). HasRow rows (leg_cells (row_in (bare leg)))) are.legs.rows listed;
      says = refl;
      entry = note.entry;
      listed = note.listed;
      number = note.number;
      narrates = note.narrates;
    })

ordered_rows : (asked : Asked) (tables : Tables) (legs : List NotedLeg) → AreOrderedRows asked tables legs → AreLegsOfRows asked tables legs
ordered_rows asked tables legs are =
    let keys : asked_keys asked (map bare are.all) ≡ map key_of legs = sym (keys_of_asked asked are.all) ∙ sym (λ i. map key_of (are.chosen i)) in (
      map key_of legs,
      (
        map bare are.all,
        are.rows.legs,
        record { same = IsPermutation-same (asked_keys asked (map bare are.all)) (map key_of legs) keys; sorted = are.up },
      ),
      record {
        keyed = refl;
        rows = subst (AllByRecursion (HasRows tables)) (sym are.chosen) (all_chosen (HasRows tables) (is_asked asked) are.all (noted_rows tables are.all are.rows));
      },
    )

pub rows_in_order : (asked : Asked) (tables : Tables) (place : OrderedPlace) → ((tables : Tables) → IsBehindOrderedRows place tables asked [])
    → BeginsRows asked tables (InOrder place)
rows_in_order asked tables place begun = record {
  wanted = inr asked;
  begins = begun tables;
  are = λ legs are. ordered_rows asked tables legs are;
}

-- ---- either of them

-- what is made where the days never fall is a place, or memory ended
module _ (made : Result RegisterPlace ShowFault) where
  pub legs_made : (asked : Asked) (entries : List Entry) → IfOk made (λ place. (entries : List Entry) → NeverFall (days_of entries) → BeginsLegs asked entries place)
      → NeverFall (days_of entries) → IfOk made (BeginsLegs asked entries)
  legs_made asked entries begins never_fall =
      IfOk-weaker made (λ place. (entries : List Entry) → NeverFall (days_of entries) → BeginsLegs asked entries place) (BeginsLegs asked entries)
      (λ place begins. begins entries never_fall) begins

  pub rows_made : (asked : Asked) (tables : Tables) → IfOk made (λ place. (tables : Tables) → BeginsRows asked tables place) → IfOk made (BeginsRows asked tables)
  rows_made asked tables begins =
      IfOk-weaker made (λ place. (tables : Tables) → BeginsRows asked tables place) (BeginsRows asked tables) (λ place begins. begins tables) begins

pub fault_made : (made : Result RegisterPlace ShowFault) → IfErr made (λ fault. fault ≡ AtWalk (Failed Memory)) → IfErr made IsOfKeys
fault_made (Ok place) memory = tt
fault_made (Err fault) memory = subst IsOfKeys (sym memory) tt

pub reads_made : {S A : Type 0} (g : Ghosts S) (old new : Book S g) (read : A) → ReadsBook {A = A} g old new (Ok read) → (made : Result RegisterPlace ShowFault)
    → IfErr made (λ fault. fault ≡ AtWalk (Failed Memory)) → ReadsBook {A = RegisterPlace} g old new made
reads_made {S} {A} g old new read reads (Ok place) memory = made_reads {A = A} {B = RegisterPlace} g old new read place reads
reads_made {S} {A} g old new read reads (Err fault) memory =
    subst (λ (f : ShowFault). ReadsBook {A = RegisterPlace} g old new (Err f)) (sym memory)
    (reads_short g {A = RegisterPlace} old new (was_read g {A = A} old new read reads) (was_usable {A = A} g old new read reads))
