-- A call of a walk, from the step that its book made.
use Rattle.std.proofs.Common.{◌≡◌, true, false, ◌↔◌, List, Option, Some, None, Result, Ok, Err, IsTrue, refl, sym, subst}
use Rattle.sqlite.specs.Held.{state}
use Rattle.sqlite.specs.Effect.{Database}
use Rattle.sqlite.specs.State.{HasCleanDisk, State}
use Rattle.sqlite.specs.Store.{Ghosts}
use Rattle.lot_book.specs.Facts.{Entry}
use Rattle.lot_stored.specs.StandFor.{Stands}
use Rattle.lot_page.specs.Cursor.{Stays}
use Rattle.lot_rows.specs.Tables.{Tables, layout}
use Rattle.lot_table.specs.Book.{Holds}
use Rattle.lot_walk.specs.Step.{Steps, StepsOverRows}
use Rattle.lot_store.specs.Walk.{Gives, HasGiven, Walks, WalksOverRows, is_at_end, is_at_fault, stage_after}
use Rattle.lot_store.specs.declared.fault.StoreFault.{StoreFault}
use Rattle.lot_store.specs.declared.fault.StoreFault.TheVariants.{Damaged, Device, NeedsReopen}
use Rattle.lot_store.specs.declared.book.Condition.TheVariants.{NeedsReopen as MustReopen}
use Rattle.lot_store.specs.declared.walk.Stage.TheVariants.{Going}
use Rattle.lot_store.specs.declared.walk.Walk.{Walk}
use Rattle.lot_store.specs.declared.walk.WalkFault.{WalkFault}
use Rattle.lot_walk.proofs.PlaceLemmas.{has_still}

-- tables are those of a state's database alone
stands_on : (a b : State) (entries : List Entry) → b.now ≡ a.now → Stands a entries → Stands b entries
stands_on a b entries same stands = record {
  book = stands.book;
  tables = stands.tables;
  has = subst (λ (db : Database). (db.schema ≡ layout.schema) × Holds layout db.trees stands.tables) (sym same) stands.has;
  stand = stands.stand;
}

module _ {S Place Row Asked Shown : Type 0} (g : Ghosts S) (shown : Row → Shown) (IsGood : Row → Type 0) (AreAll : Asked → List Entry → List Shown → Type 0)
    (IsBehind : Place → Tables → Asked → List Entry → List Shown → Type 0) (old new : Walk S Place g) where
  abbrev pub Gave : List Shown → Walk S Place g → (asked : Asked) (entries : List Entry) → Type 0
  Gave given walk asked entries = HasGiven g AreAll IsBehind walk asked entries given

  abbrev pub before : State
  before = state g old.book.now.conn

  abbrev pub after : State
  after = state g new.book.now.conn

  abbrev pub read : Option Row → Result (Option Row) StoreFault
  read found = Ok found

  abbrev pub answered : Option Row → Result (Option Row) WalkFault
  answered found = Ok found

  abbrev pub StepsOk : Option Row → Type 0
  StepsOk found = Steps shown IsGood AreAll IsBehind Damaged Device old.place new.place before after (read found)

  -- what a step gives is what the walk gives
  given_on : (found : Option Row) → new.stage ≡ stage_after (read found) → StepsOk found → HasCleanDisk after
      → (asked : Asked) (entries : List Entry) (given : List Shown) → Gave given old asked entries → Gives g shown IsGood AreAll IsBehind new asked entries given found
  unfolding stands_on
  given_on None stage steps clean asked entries given has =
      steps.gives clean has.stands.tables entries has.stands.has has.stands.book has.stands.stand asked given has.behind
  given_on (Some row) stage steps clean asked entries given has =
      let next = steps.gives clean has.stands.tables entries has.stands.has has.stands.book has.stands.stand asked given has.behind in
      record {
        stands = stands_on before after entries (steps.same clean).now has.stands;
        prefix = next.1;
        goes_on = stage;
        behind = next.0;
      }

  completes : (found : Option Row) → new.stage ≡ stage_after (read found) → (answered found ≡ Ok None) ↔ IsTrue (is_at_end new.stage)
  completes None stage = (λ _. subst (λ s. IsTrue (is_at_end s)) (sym stage) refl, λ _. refl)
  completes (Some row) stage = (λ is. cc, λ ended. let no : false ≡ true = subst (λ s. IsTrue (is_at_end s)) stage ended in cc)

  ends : (found : Option Row) → new.stage ≡ stage_after (read found) → IsTrue (is_at_fault new.stage) → ⊥
  ends None stage ended = let no : false ≡ true = subst (λ s. IsTrue (is_at_fault s)) stage ended in cc
  ends (Some row) stage ended = let no : false ≡ true = subst (λ s. IsTrue (is_at_fault s)) stage ended in cc

  pub walks_on : (found : Option Row) → old.stage ≡ Going → new.stage ≡ stage_after (read found) → StepsOk found
      → ((read found ≡ Err NeedsReopen) ↔ (old.book.now.condition ≡ MustReopen)) → new.book.now.condition ≡ old.book.now.condition
      → Walks g shown IsGood AreAll IsBehind old new (Ok found)
  walks_on found going stage steps reopen condition = record {
    gives = given_on found stage steps;
    good = steps.good;
    complete = λ over. let no : false ≡ true = subst (λ s. IsTrue (is_at_end s)) going over in cc;
    completes = completes found stage;
    ended = (λ is. cc, λ ended. let no : false ≡ true = subst (λ s. IsTrue (is_at_fault s)) going ended in cc);
    ends = (λ is. let no : false ≡ true = is in cc, λ ended. absurd (ends found stage ended));
    reopen = (λ is. cc, λ both. let is = reopen.1 both.1 in cc);
    condition = condition;
    failed = λ clean is. cc;
    damaged = λ clean is. cc;
    sure = λ is. cc;
    same = steps.same;
    left = λ clean. tt;
    crash = steps.crash;
  }

-- the same of rows that may be those of no book
module _ {S Place Row Asked Shown : Type 0} (g : Ghosts S) (shown : Row → Shown) (AreAllRows : Asked → Tables → List Shown → Type 0)
    (IsBehindRows : Place → Tables → Asked → List Shown → Type 0) (old new : Walk S Place g) where
  abbrev was : State
  was = state g old.book.now.conn

  abbrev is : State
  is = state g new.book.now.conn

  abbrev reads : Option Row → Result (Option Row) StoreFault
  reads found = Ok found

  pub walks_over_rows : (found : Option Row) → new.stage ≡ stage_after (reads found) → (HasCleanDisk is → Stays was is)
      → StepsOverRows shown AreAllRows IsBehindRows old.place new.place was is (reads found) → WalksOverRows g shown AreAllRows IsBehindRows old new (Ok found)
  walks_over_rows None stage same steps = λ clean asked tables given has. steps clean tables has.has asked given has.behind
  walks_over_rows (Some row) stage same steps = λ clean asked tables given has. record {
    has = has_still was is tables (same clean) has.has;
    goes_on = stage;
    behind = steps clean tables has.has asked given has.behind;
  }
