-- A place that goes on before a step: what was read first changes neither the rows that it has given nor the connection.
use Rattle.std.proofs.Common.{◌≡◌, ◌∙◌, List, Option, Result, Ok, Err, refl, sym, subst, arith, inl, inr}
use Rattle.sqlite.specs.Effect.{Database}
use Rattle.sqlite.specs.State.{HasCleanDisk, IsUnchanged, State, Survives}
use Rattle.lot_book.specs.Facts.{Entry}
use Rattle.lot_page.specs.Cursor.{Stays}
use Rattle.lot_rows.proofs.StateLemmas.{early, survives_both}
use Rattle.lot_rows.specs.Tables.{Has, Tables, layout}
use Rattle.lot_table.specs.Book.{Holds}
use Rattle.lot_table.specs.Statement.{DiskFailed}
use Rattle.lot_walk.specs.Place.{KeepsRows, Went}
use Rattle.lot_walk.specs.Step.{Steps, StepsOverRows}

-- ---- the connection

pub stays_itself : (s : State) → Stays s s
stays_itself s = record { now = refl; committed = refl; mode = refl; is_open = refl }

pub unchanged_stays : (old new : State) → IsUnchanged old new → Stays old new
unchanged_stays old new same = record {
  now = same.0.now_is;
  committed = same.0.committed_is;
  mode = same.0.mode;
  is_open = same.0.is_open ∙ sym same.0.was_open;
}

pub stays_then : (old mid new : State) → Stays old mid → Stays mid new → Stays old new
stays_then old mid new one two = record {
  now = two.now ∙ one.now;
  committed = two.committed ∙ one.committed;
  mode = two.mode ∙ one.mode;
  is_open = two.is_open ∙ one.is_open;
}

pub failed_after : (old mid new : State) → Stays old mid → Survives old mid (λ _. ⊥) → DiskFailed mid new → DiskFailed old new
failed_after old mid new same one (inl more) = inl (omega (arith, one.counts, more))
failed_after old mid new same one (inr shut) = inr (sym same.is_open ∙ shut)

pub has_still : (old mid : State) (tables : Tables) → Stays old mid → Has old tables → Has mid tables
has_still old mid tables same has = subst (λ (db : Database). (db.schema ≡ layout.schema) × Holds layout db.trees tables) (sym same.now) has

-- ---- the place

module _ {Place Asked Shown : Type 0} (IsBehind : Place → Tables → Asked → List Entry → List Shown → Type 0) where
  module _ {Row F : Type 0} (shown : Row → Shown) (IsGood : Row → Type 0) (AreAll : Asked → List Entry → List Shown → Type 0) (damage device : F)
      (before mid after : Place) (old now new : State) where
    pub steps_after : (result : Result (Option Row) F) → Went IsBehind before mid old now
        → Steps shown IsGood AreAll IsBehind damage device mid after now new result
        → Steps shown IsGood AreAll IsBehind damage device before after old new result
    steps_after (Ok found) went steps = record {
      gives = λ clean tables entries has book stand asked given behind.
          let was = early now new steps.crash clean in
          steps.gives clean tables entries (has_still old now tables (went.same was) has) book stand asked given
          (went.keeps was tables entries has book stand asked given behind);
      good = steps.good;
      same = λ clean. stays_then old now new (went.same (early now new steps.crash clean)) (steps.same clean);
      damaged = λ clean is. cc;
      failed = λ clean is. cc;
      crash = survives_both old now new went.survives steps.crash;
    }
    steps_after (Err fault) went steps = record {
      gives = λ clean. tt;
      good = tt;
      same = λ clean. tt;
      damaged = λ clean is limit tables entries has book stand asked given behind.
          let was = early now new steps.crash clean in
          steps.damaged clean is (went.survives.limit ∙ limit) tables entries (has_still old now tables (went.same was) has) book stand asked given
          (went.keeps was tables entries has book stand asked given behind);
      failed = λ clean is.
          let was = early now new steps.crash clean in
          failed_after old now new (went.same was) went.survives (steps.failed clean is);
      crash = survives_both old now new went.survives steps.crash;
    }

-- the same of rows that may be those of no book
module _ {Place Asked Shown : Type 0} (IsBehindRows : Place → Tables → Asked → List Shown → Type 0) where
  pub keeps_then : (before mid after : Place) (old now new : State) → (HasCleanDisk now → Stays old now) → Survives now new (λ _. ⊥)
      → KeepsRows IsBehindRows before mid old now → KeepsRows IsBehindRows mid after now new → KeepsRows IsBehindRows before after old new
  keeps_then before mid after old now new same crash one two = λ clean tables has asked given behind.
      let was = early now new crash clean in
      two clean tables (has_still old now tables (same was) has) asked given (one was tables has asked given behind)

  pub rows_after : {Row : Type 0} (F : Type 0) (shown : Row → Shown) (AreAllRows : Asked → Tables → List Shown → Type 0) (before mid after : Place) (old now new : State)
      (result : Result (Option Row) F) → (HasCleanDisk now → Stays old now) → Survives now new (λ _. ⊥) → KeepsRows IsBehindRows before mid old now
      → StepsOverRows shown AreAllRows IsBehindRows mid after now new result → StepsOverRows shown AreAllRows IsBehindRows before after old new result
  rows_after F shown AreAllRows before mid after old now new (Ok found) same crash one steps = λ clean tables has asked given behind.
      let was = early now new crash clean in
      steps clean tables (has_still old now tables (same was) has) asked given (one was tables has asked given behind)
  rows_after F shown AreAllRows before mid after old now new (Err fault) same crash one steps = λ clean. tt
