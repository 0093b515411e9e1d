-- The rows of edition 2 are put, one after another.
use Rattle.std.proofs.Common.{◌≡◌, ◌∙◌, ◌⊎◌, inl, inr, ◌++◌, ◌+◌, ◌≤◌, ℕ, ℤ, List, [], ◌∷◌, Ok, Err, OnErr, OnOk, Result, length, map, refl, sym, ap, subst, arith}
use Rattle.std.proofs.lemmas.Bool.{both_ways, cases_Bool}
use Rattle.std.proofs.lemmas.List.{append_assoc, length-map, map-append}
use Rattle.sqlite.specs.State.{HasCleanDisk, KeepsCommit, State, Survives}
use Rattle.sqlite.specs.Tree.{Trees}
use Rattle.lot_migrate.specs.declared.opening_numbers.LotOpening.{LotOpening}
use Rattle.lot_stored.specs.Rows.{marked, migration_row, this_edition}
use Rattle.lot_stored.proofs.LookupLemmas.{has_own_key}
use Rattle.lot_stored.proofs.OrderLemmas.{IsRising}
use Rattle.lot_table.proofs.BookLemmas.{on_ok, turns_then}
use Rattle.lot_table.proofs.MakeLemmas.{keeps_shown, keeps_then, keeps_undone}
use Rattle.lot_table.proofs.RowidLemmas.{each_in_reach, each_then}
use Rattle.lot_table.specs.Book.{BookTable, Holds, IsUndone, StaysInside, Turns, always}
use Rattle.lot_table.specs.Call.{Puts}
use Rattle.lot_table.specs.Rowids.{EachStaysInReach}
use Rattle.lot_table.specs.Rows.{put_in}
use Rattle.lot_table.specs.Statement.{DiskFailed}
use Rattle.lot_table.specs.declared.fault.Fault.{Fault}
use Rattle.lot_table.specs.declared.fault.Fault.TheVariants.{Memory}
use Rattle.lot_rows.proofs.StateLemmas.{early, survives_both, survives_same}
use Rattle.lot_rows.specs.Book.{book_cells}
use Rattle.lot_rows.specs.Opening.{opening_cells}
use Rattle.lot_rows.specs.Tables.{Has, Tables, book_table, layout, migration_table, opening_table}
use Rattle.lot_rows.specs.declared.book.BookRow.{BookRow}
use Rattle.lot_write.specs.Call.{GivesRowids, LacksRoomFor, LacksRoomIn, Stops, WritesAll}
use Rattle.lot_write.specs.Write.{AreFit, with_put, written_all}
use Rattle.lot_write.specs.declared.write.Write.{Write}
use Rattle.lot_write.specs.declared.write.Write.TheVariants.{Opening}
use Rattle.lot_migrate.specs.Put.{IsFullFor, IsFullForMarks, IsFullForOpenings, PutsRows, opening_writes, with_all, with_marks}
use Rattle.lot_migrate.specs.Rows.{bare, migrated, row_of_opening}
use Rattle.lot_migrate.proofs.OpeningLemmas.{put_next}

-- ---- a failure of the disk after other calls

pub failed_later : (a b c : State) → Survives a b (λ _. ⊥) → HasCleanDisk b → b.faults ≤ c.faults → DiskFailed b c → DiskFailed a c
failed_later a b c first clean up (inl fault) = inl (omega (arith, first.counts, fault))
failed_later a b c first clean up (inr shut) = elim (cases_Bool a.is_open) [
  | inl live ↦ elim (first.closes clean live) [
    | inl still ↦ absurd (both_ways _ shut still)
    | inr fault ↦ inl (omega (arith, up, fault))
  ]
  | inr dead ↦ inr dead
]

-- ---- one row

same_fault : {A B : Type 0} {a b : Fault} → ◌≡◌ {A = Result A Fault} (Err a) (Err b) → ◌≡◌ {A = Result B Fault} (Err a) (Err b)
same_fault {A} {B} {a} {b} is = let one : a ≡ b = cc in ap Err one

-- no row fits where none was put yet
abbrev pub IsFull : {X : Type 0} → BookTable Tables X → X → Tables → Trees → Type 0
IsFull t x tables before = IsFullFor t x tables before 0

-- nor did it fit before so many changes
pub full_since : {X : Type 0} (t : BookTable Tables X) (x : X) (tables : Tables) (first count all : ℕ) (old mid : Trees)
    → count + first ≡ all → EachStaysInReach first layout.schema old mid → IsFullFor t x tables mid count → IsFullFor t x tables old all
full_since t x tables first count all old mid sum stay full = record {
  trees = full.trees;
  holds = full.holds;
  reach = subst (λ k. EachStaysInReach k layout.schema old full.trees) sum
      (each_then first count old mid full.trees layout.schema.tables stay full.reach);
  lacks = full.lacks;
}

pub marks_since : (place : ℕ) (tables : Tables) (first : ℕ) (old mid : Trees) → EachStaysInReach first layout.schema old mid
    → IsFullForMarks place tables mid 0 → IsFullForMarks place tables old first
marks_since place tables first old mid stay (inl full) = inl (full_since migration_table (migration_row place) tables first 0 first old mid (omega arith) stay full)
marks_since place tables first old mid stay (inr full) =
    inr (full_since book_table this_edition (with_put migration_table (migration_row place) tables) first 1 (1 + first) old mid refl stay full)

-- the last of the rows
pub puts_one : {A X : Type 0} (t : BookTable Tables X) (x : X) (old new : State) (result : Result A Fault)
    → Puts layout t x old new result → PutsRows (with_put t x) 1 (IsFull t x) old new result
puts_one t x old new result puts = record {
  inside = λ clean. on_ok result _ _ (λ inside. inside.mode) (puts.inside clean);
  turns = puts.turns;
  rowids = puts.rowids;
  damaged = λ clean is unlimited tables has. puts.damaged clean is unlimited tables tt has;
  device = λ clean is tables has. elim (puts.device clean is tables tt has) [
    | inl disk ↦ inl disk
    | inr none ↦ inr (record { trees = old.now.trees; holds = has.1; reach = each_in_reach old.now.trees layout.schema.tables; lacks = none })
  ];
  kept = λ clean. kept result (puts.inside clean) (puts.undone clean);
  crash = puts.crash;
}
  where
    kept : {A : Type 0} (result : Result A Fault) → OnOk result (StaysInside old new) → OnErr result (IsUndone old new) → KeepsCommit old new
    kept (Ok done) inside undone = keeps_shown old new _ _ inside
    kept (Err fault) inside undone = keeps_undone old new undone

-- rows, and others behind them
pub puts_then : {A B : Type 0} (f g : Tables → Tables) (count more : ℕ) (NoRoom NoneThen NoneSince : Tables → Trees → Type 0)
    (old mid new : State) (done : A) (result : Result B Fault)
    → ((tables : Tables) → EachStaysInReach count layout.schema old.now.trees mid.now.trees → NoneThen tables mid.now.trees
    → NoneSince tables old.now.trees)
    → PutsRows f count NoRoom old mid (Ok done) → PutsRows g more NoneThen mid new result
    → PutsRows (λ tables. g (f tables)) (more + count) (λ tables before. NoRoom tables before ⊎ NoneSince (f tables) before) old new result
puts_then f g count more NoRoom NoneThen NoneSince old mid new done result since first second = record {
  inside = second.inside;
  turns = λ clean. on_ok result _ _ (λ turns. both clean turns) (second.turns clean);
  rowids = λ clean. on_ok result _ _ (λ given tables has.
      each_then count more old.now.trees mid.now.trees new.now.trees layout.schema.tables
      (first.rowids (early mid new second.crash clean) tables has) (given (f tables) (has_then clean tables has))) (second.rowids clean);
  damaged = λ clean is unlimited tables has. second.damaged clean is (first.crash.limit ∙ unlimited) (f tables) (has_then clean tables has);
  device = λ clean is tables has. elim (second.device clean is (f tables) (has_then clean tables has)) [
    | inl disk ↦ inl (failed_later old mid new first.crash (early mid new second.crash clean) second.crash.counts disk)
    | inr lacks ↦ inr (inr (since (f tables) (first.rowids (early mid new second.crash clean) tables has) lacks))
  ];
  kept = λ clean. keeps_then old mid new (first.kept (early mid new second.crash clean)) (second.kept clean);
  crash = survives_both old mid new first.crash second.crash;
}
  where
    has_then : HasCleanDisk new → (tables : Tables) → Has old tables → Has mid (f tables)
    has_then clean tables has =
        let turns = first.turns (early mid new second.crash clean) in (turns.book has.0, turns.lists has.0 tables has.1 tt)

    both : HasCleanDisk new → Turns layout always g mid new → Turns layout always (λ tables. g (f tables)) old new
    both clean turns =
        let all = turns_then layout always always f g old mid new (first.turns (early mid new second.crash clean)) turns in
        record { book = all.book; lists = λ is tables holds _. all.lists is tables holds (tt, tt) }

-- a failure puts nothing, whatever were put behind it
pub puts_fails : {A B : Type 0} (f g : Tables → Tables) (count all : ℕ) (NoRoom NoneThen : Tables → Trees → Type 0) (old new : State)
    (fault : Fault) → ((tables : Tables) (before : Trees) → NoRoom tables before → NoneThen tables before)
    → PutsRows {A = A} f count NoRoom old new (Err fault) → PutsRows {A = B} g all NoneThen old new (Err fault)
puts_fails f g count all NoRoom NoneThen old new fault then p = record {
  inside = λ clean. tt;
  turns = λ clean. tt;
  rowids = λ clean. tt;
  damaged = λ clean is. p.damaged clean (same_fault is);
  device = λ clean is tables has. elim (p.device clean (same_fault is) tables has) [
    | inl disk ↦ inl disk
    | inr lacks ↦ inr (then tables old.now.trees lacks)
  ];
  kept = p.kept;
  crash = p.crash;
}

-- there is no memory before the first of them
pub puts_out : {A : Type 0} (f : Tables → Tables) (count : ℕ) (NoRoom : Tables → Trees → Type 0) (s : State)
    → PutsRows {A = A} f count NoRoom s s (Err Memory)
puts_out f count NoRoom s = record {
  inside = λ clean. tt;
  turns = λ clean. tt;
  rowids = λ clean. tt;
  damaged = λ clean is. absurd cc;
  device = λ clean is. absurd cc;
  kept = λ clean. record { was_open = λ live. live; committed = λ _. refl };
  crash = survives_same s (λ _. ⊥);
}

-- ---- the rows of the openings

all_fit : (openings : List LotOpening) (tables : Tables) → AreFit (opening_writes openings) tables
all_fit [] tables = tt
all_fit (it ∷ more) tables = (tt, all_fit more (with_put opening_table (row_of_opening it) tables))

record PartsOf (openings : List LotOpening) (made : List Write) (next : Write) : Type 0 where
  first : List LotOpening
  it : LotOpening
  more : List LotOpening
  split : openings ≡ first ++ it ∷ more
  before : made ≡ opening_writes first
  here : next ≡ Opening (row_of_opening it)

parts : (openings : List LotOpening) (made : List Write) (next : Write) (left : List Write)
    → opening_writes openings ≡ made ++ next ∷ left → PartsOf openings made next
parts [] [] next left is = absurd cc
parts [] (m ∷ made) next left is = absurd cc
parts (it ∷ more) [] next left is = record { first = []; it = it; more = more; split = refl; before = refl; here = let same : next ≡ Opening (row_of_opening it) = cc in same }
parts (it ∷ more) (m ∷ made) next left is =
    let head : m ≡ Opening (row_of_opening it) = cc in
    let tail : opening_writes more ≡ made ++ next ∷ left = cc in
    let p = parts more made next left tail in
    record {
      first = it ∷ p.first;
      it = p.it;
      more = p.more;
      split = ap (λ l. it ∷ l) p.split;
      before = λ i. head i ∷ p.before i;
      here = p.here;
    }

none_for_openings : (openings : List LotOpening) (tables : Tables) (before : Trees) (new : State)
    → Stops (opening_writes openings) tables before new → IsFullForOpenings openings tables before
none_for_openings openings tables before new stops =
    let p = parts openings stops.made stops.next stops.left stops.split in
    let holds = subst (λ (made : List Write). Holds layout stops.trees (written_all made tables)) p.before stops.holds in
    let many : length stops.made ≡ length p.first = ap length p.before ∙ length-map p.first _ in
    let lacks : LacksRoomIn opening_table (row_of_opening p.it) stops.trees =
    subst (λ (next : Write). LacksRoomFor next stops.trees) p.here stops.lacks in
    record {
      done = p.first;
      next = p.it;
      left = p.more;
      split = p.split;
      lacks = record {
        trees = stops.trees;
        holds = holds;
        reach = subst (λ k. EachStaysInReach k layout.schema before stops.trees) many stops.reach;
        lacks = lacks;
      };
    }

pub puts_openings : {A : Type 0} (openings : List LotOpening) (old new : State) (result : Result A Fault)
    → WritesAll (opening_writes openings) old new result
    → PutsRows (written_all (opening_writes openings)) (length openings) (IsFullForOpenings openings) old new result
puts_openings openings old new result w = record {
  inside = w.inside;
  turns = w.turns;
  rowids = λ clean. on_ok result _ _ (subst (λ k. GivesRowids k old new) (length-map openings _)) (w.rowids clean);
  damaged = λ clean is unlimited tables. w.damaged clean is unlimited tables (all_fit openings tables);
  device = λ clean is tables has. elim (w.device clean is tables (all_fit openings tables) has) [
    | inl disk ↦ inl disk
    | inr stops ↦ inr (none_for_openings openings tables old.now.trees new stops)
  ];
  kept = w.kept;
  crash = w.crash;
}

-- ---- what they make of tables of edition 1

-- openings in their order, put into a table that has the first of them
openings_put : (done more : List LotOpening) (tables : Tables) → tables.opening ≡ map row_of_opening done
    → IsRising opening_cells 6 (map row_of_opening (done ++ more))
    → written_all (opening_writes more) tables ≡ record tables { opening = map row_of_opening (done ++ more) }
openings_put done [] tables is up = λ i. record tables { opening = (is ∙ ap (map row_of_opening) (sym (nil done))) i }
  where
    nil : {X : Type 0} (xs : List X) → xs ++ [] ≡ xs
    nil [] = refl
    nil (x ∷ xs) = ap (λ l. x ∷ l) (nil xs)
openings_put done (it ∷ more) tables is up =
    let row = row_of_opening it in
    let next = with_put opening_table row tables in
    let together : (done ++ it ∷ []) ++ more ≡ done ++ it ∷ more = append_assoc done (it ∷ []) more in
    let put : next.opening ≡ map row_of_opening (done ++ it ∷ []) =
    ap (λ rows. put_in opening_cells 6 row rows) is
    ∙ put_next (map row_of_opening done) row (map row_of_opening more)
    (subst (IsRising opening_cells 6) (map-append row_of_opening done (it ∷ more)) up)
    ∙ sym (map-append row_of_opening done (it ∷ [])) in
    openings_put (done ++ it ∷ []) more next put (subst (λ l. IsRising opening_cells 6 (map row_of_opening l)) (sym together) up)
    ∙ ap (λ l. record tables { opening = map row_of_opening l }) together

-- the row of the edition is put instead of the one of another edition
one_mark : (edition : ℤ) → put_in book_cells 1 this_edition (marked edition ∷ []) ≡ this_edition ∷ []
one_mark edition = rw (has_own_key 1 (book_cells this_edition)) refl

pub all_put : (openings : List LotOpening) (place : ℕ) (tables : Tables) (edition : ℤ) → tables.book ≡ marked edition ∷ []
    → IsRising opening_cells 6 (map row_of_opening openings)
    → with_all openings place (bare tables) ≡ migrated tables (map row_of_opening openings) place
all_put openings place tables edition is up =
    let rows = map row_of_opening openings in
    let put : with_all openings place (bare tables) ≡ with_marks place (record tables { opening = rows; migration = [] }) =
    ap (with_marks place) (openings_put [] openings (bare tables) refl up) in
    put
    ∙ (λ i. record tables {
      book = (ap (λ (book : List BookRow). put_in book_cells 1 this_edition book) is ∙ one_mark edition) i;
      opening = rows;
      migration = migration_row place ∷ [];
    })
