-- The place of migration is put that is one behind another: the row of that one is deleted, and then its table has room.
use Rattle.std.proofs.Common.{◌≡◌, ◌∙◌, ◌⊎◌, inl, inr, ℕ, suc, Bool, true, false, cond, eqb, not, OnErr, OnOk, List, [], ◌∷◌, Ok, Err, Result, drop, length, map, pos, refl, sym, ap, subst, take, arith}
use Rattle.std.proofs.lemmas.Bool.{eqb-false, true≢false}
use Rattle.std.proofs.lemmas.List.Elements.{All-from_recursion}
use Rattle.std.proofs.lemmas.List.Sorted.{length_permutation}
use Rattle.std.proofs.lemmas.Nat.Bits.{bit_at-zero}
use Rattle.std.specs.Float.{NotNan}
use Rattle.std.specs.List.{AllByRecursion}
use Rattle.sqlite.specs.Order.{Row}
use Rattle.sqlite.specs.State.{HasCleanDisk, KeepsCommit, State, Survives}
use Rattle.sqlite.specs.Tree.{Trees}
use Rattle.sqlite.specs.declared.types.Value.TheVariants.{Int}
use Rattle.sqlite_keyed.proofs.ListLemmas.{all-append}
use Rattle.sqlite_rules.proofs.ListLemmas.{all_has}
use Rattle.sqlite_rules.specs.Edit.{IsOversized, next_rowid}
use Rattle.sqlite_rules.specs.Lists.{Has as HasItem}
use Rattle.sqlite_schema.specs.Rules.{index_reals}
use Rattle.sqlite_schema.specs.declared.schema.Index.{Index}
use Rattle.sqlite_sql.specs.Catalog.{entry_of}
use Rattle.sqlite_sql.specs.Ops.{fits_i64}
use Rattle.sqlite_trees.specs.View.{IsStorable}
use Rattle.sqlite_value.specs.Order.{number}
use Rattle.sqlite_value.specs.declared.value.Value.{Value}
use Rattle.lot_rows.specs.Migration.{migration_cells}
use Rattle.lot_rows.specs.Tables.{Has, Tables, layout, migration_table}
use Rattle.lot_rows.proofs.StateLemmas.{early, survives_both}
use Rattle.lot_stored.specs.Rows.{migration_row}
use Rattle.lot_stored.proofs.LookupLemmas.{has_own_key}
use Rattle.lot_table.proofs.BookLemmas.{on_ok}
use Rattle.lot_table.proofs.MakeLemmas.{keeps_shown, keeps_then, keeps_undone}
use Rattle.lot_table.specs.Book.{Holds, IsUndone, StaysInside}
use Rattle.lot_table.specs.Call.{Deletes, LacksRoom, Puts}
use Rattle.lot_table.specs.Statement.{DiskFailed}
use Rattle.lot_table.specs.declared.fault.Fault.{Fault}
use Rattle.lot_write.specs.Write.{with_deleted}
use Rattle.lot_restore.specs.Judge.{IsPlacedAt, PutsPlace}
use lib.Ieee.{is_nan}

-- ---- the row of a place, and tables without one

abbrev key_of : ℕ → Row
key_of place = migration_cells (migration_row place)

-- tables without a place
abbrev unplaced : Tables → Tables
unplaced tables = record tables { migration = [] }

emptied : (place : ℕ) (tables : Tables) → IsPlacedAt place tables → with_deleted migration_table (key_of place) tables ≡ unplaced tables
emptied place tables is =
    ap (λ rows. with_deleted migration_table (key_of place) (record tables { migration = rows })) is
    ∙ ap (λ b. record tables { migration = cond (not b) (migration_row place ∷ []) [] }) (has_own_key 1 (key_of place))

-- ---- room for the row of a place

no_items : {X Y : Type 0} (f : X → Y) (xs : List X) → 0 ≡ length (map f xs) → xs ≡ []
no_items f [] none = refl
no_items f (x ∷ xs) none = absurd (omega (arith, none))

abbrev whole_number : Value → Type 0
whole_number v = NotNan (number v)

-- the entry of a row in an index can be stored, where the index is of the table in that tree
abbrev KeyFits : ℕ → Row → Index → Type 0
KeyFits tree row index = index.table ≡ tree → IsStorable (index_reals 0 index.columns) (entry_of index.columns row)

-- whether none of these indexes is of the table in that tree
abbrev are_of_others : ℕ → List Index → Bool
are_of_others tree [] = true
are_of_others tree (index ∷ indexes) = cond (eqb index.table tree) false (are_of_others tree indexes)

others_fit : (tree : ℕ) (row : Row) (indexes : List Index) → are_of_others tree indexes ≡ true → AllByRecursion (KeyFits tree row) indexes
others_fit tree row [] all = tt
others_fit tree row (index ∷ indexes) all = by (eqb index.table tree) refl all (others_fit tree row indexes)
  where
    by : (b : Bool) → eqb index.table tree ≡ b → cond b false (are_of_others tree indexes) ≡ true
        → (are_of_others tree indexes ≡ true → AllByRecursion (KeyFits tree row) indexes)
        → AllByRecursion (KeyFits tree row) (index ∷ indexes)
    by true here none more = absurd cc
    by false apart all more = (λ is. absurd (eqb-false index.table tree apart is), more all)

abbrev place_row : ℕ → Row
place_row place = Int (pos 1) ∷ key_of place

place_fits : (place : ℕ) → IsStorable 0 (place_row place)
unfolding is_nan
place_fits place = record {
  typed = λ c set. let none = bit_at-zero c in absurd (omega (arith, set, none));
  columns = (omega arith, omega arith);
  numbers = All-from_recursion whole_number (place_row place) (tt, (tt, tt));
  short = omega arith;
}

place_key_fits : (place : ℕ) → IsStorable 0 (entry_of (1 ∷ []) (place_row place))
unfolding is_nan
place_key_fits place = record {
  typed = λ c set. let none = bit_at-zero c in absurd (omega (arith, set, none));
  columns = (omega arith, omega arith);
  numbers = All-from_recursion whole_number (entry_of (1 ∷ []) (place_row place)) (tt, (tt, tt));
  short = omega arith;
}

-- its table has the last of the indexes
place_keys_fit : (place : ℕ) (index : Index) → HasItem layout.schema.indexes index → KeyFits migration_table.table.tree (place_row place) index
place_keys_fit place index has =
    let tree = migration_table.table.tree in
    let indexes = layout.schema.indexes in
    all_has (KeyFits tree (place_row place)) indexes index
    (all-append (KeyFits tree (place_row place)) (take 13 indexes) (drop 13 indexes) (others_fit tree (place_row place) (take 13 indexes) refl) (λ _. place_key_fits place, tt)) has

has_room : (place : ℕ) (trees : Trees) (tables : Tables) → Holds layout trees (unplaced tables) → ¬ LacksRoom layout.schema migration_table.table (key_of place) trees
has_room place trees tables holds lacks =
    let tree = migration_table.table.tree in
    let empty : trees tree ≡ [] = no_items (drop 1) (trees tree) (length_permutation _ _ holds.held.1.1.1.1.1.1.1.1.1.1.1.1.0.same) in
    elim (subst (λ (rows : List Row). (fits_i64 (next_rowid rows) ≡ false) ⊎ IsOversized layout.schema migration_table.table (Int (next_rowid rows) ∷ key_of place)) empty lacks) [
      | inl full ↦ absurd (let e : true ≡ false = full in cc)
      | inr big ↦ elim big [ inl row ↦ row (place_fits place, omega arith) | inr key ↦ key.3 (place_keys_fit place key.0 key.1 key.2) ]
    ]

-- ---- a disk that failed since, or before

pub failed_since : (a b c : State) → Survives a b (λ _. ⊥) → Survives b c (λ _. ⊥) → HasCleanDisk c → DiskFailed b c → DiskFailed a c
failed_since a b c one two clean (inl more) = inl (omega (arith, more, one.counts))
failed_since a b c one two clean (inr shut) = by a.is_open refl
  where
    by : (was : Bool) → a.is_open ≡ was → DiskFailed a c
    by false is = inr is
    by true is =
        elim (one.closes (omega (arith, clean, two.clean)) is) [ inl opened ↦ absurd (true≢false (sym opened ∙ shut)) | inr more ↦ inl (omega (arith, more, two.counts)) ]

-- ---- both statements

kept_by : {A : Type 0} (old new : State) (result : Result A Fault) → OnOk result (StaysInside old new) → OnErr result (IsUndone old new) → KeepsCommit old new
kept_by old new (Ok done) inside undone = keeps_shown old new _ _ inside
kept_by old new (Err fault) inside undone = keeps_undone old new undone

pub puts_next : {A : Type 0} (before : ℕ) (old mid new : State) (done : A) (result : Result A Fault)
    → Deletes layout migration_table (key_of before) old mid (Ok done) → Puts layout migration_table (migration_row (suc before)) mid new result
    → PutsPlace before old new result
puts_next before old mid new done result first second = record {
  inside = λ clean. on_ok result _ _ (λ inside. inside.mode) (second.inside clean);
  turns = λ clean. on_ok result _ _ (λ turns tables placed has.
      let there = has_none (early mid new second.crash clean) tables placed has in
      (turns.book there.0, turns.lists there.0 (unplaced tables) there.1 tt)) (second.turns clean);
  damaged = λ clean is unlimited tables has.
      second.damaged clean is (first.crash.limit ∙ unlimited) (with_deleted migration_table (key_of before) tables) tt
      (deleted (early mid new second.crash clean) tables has);
  device = λ clean is tables placed has.
      let there = has_none (early mid new second.crash clean) tables placed has in
      elim (second.device clean is (unplaced tables) tt there) [
        | inl failed ↦ failed_since old mid new first.crash second.crash clean failed
        | inr lacks ↦ absurd (has_room (suc before) mid.now.trees tables there.1 lacks)
      ];
  kept = λ clean.
      keeps_then old mid new (keeps_shown old mid _ _ (first.inside (early mid new second.crash clean)))
      (kept_by mid new result (second.inside clean) (second.undone clean));
  crash = survives_both old mid new first.crash second.crash;
}
  where
    deleted : HasCleanDisk mid → (tables : Tables) → Has old tables → Has mid (with_deleted migration_table (key_of before) tables)
    deleted clean tables has =
        let turns = first.turns clean in (turns.book has.0, turns.lists has.0 tables has.1 tt)

    has_none : HasCleanDisk mid → (tables : Tables) → IsPlacedAt before tables → Has old tables → Has mid (unplaced tables)
    has_none clean tables placed has = subst (λ (t : Tables). Has mid t) (emptied before tables placed) (deleted clean tables has)

pub deletes_none : {A B : Type 0} (before : ℕ) (old new : State) (fault : Fault)
    → Deletes {A = A} layout migration_table (key_of before) old new (Err fault) → PutsPlace {A = B} before old new (Err fault)
deletes_none before old new fault first = record {
  inside = λ clean. tt;
  turns = λ clean. tt;
  damaged = λ clean is unlimited tables has. first.damaged clean (same_fault is) unlimited tables tt has;
  device = λ clean is tables placed has.
      elim (first.device clean (same_fault is) tables tt has) [ inl failed ↦ failed | inr none ↦ absurd none ];
  kept = λ clean. keeps_undone old new (first.undone clean);
  crash = first.crash;
}
  where
    same_fault : {A B : Type 0} {a b : Fault} → ◌≡◌ {A = Result A Fault} (Err a) (Err b) → ◌≡◌ {A = Result B Fault} (Err a) (Err b)
    same_fault {A} {B} {a} {b} is = let one : a ≡ b = cc in ap Err one
