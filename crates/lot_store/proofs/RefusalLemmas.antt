-- Why a row of a book without entries isn't put.
use Rattle.std.proofs.Common.{◌≡◌, ◌∙◌, ◌⊎◌, inl, inr, ℕ, Bool, true, false, true≢false, cond, eqb, Err, List, [], ◌∷◌, None, drop, length, map, pos, refl, sym, subst, take, arith}
use Rattle.std.proofs.lemmas.Bool.{cases_Bool, eqb-false}
use Rattle.std.proofs.lemmas.List.Elements.{All-from_recursion}
use Rattle.std.proofs.lemmas.List.Sorted.{length_permutation}
use Rattle.std.proofs.lemmas.Nat.Bits.{bit_at-zero}
use Rattle.std.specs.Float.{NotNan}
use Rattle.std.specs.List.{AllByRecursion}
use Rattle.sqlite.specs.Order.{Row}
use Rattle.sqlite.specs.State.{HasCleanDisk, IsLive, State, Survives}
use Rattle.sqlite.specs.Tree.{Trees}
use Rattle.sqlite.specs.declared.types.Value.TheVariants.{Int}
use Rattle.sqlite_catalog.specs.Listing.{IsSound}
use Rattle.sqlite_keyed.proofs.ListLemmas.{all-append}
use Rattle.sqlite_rules.proofs.ListLemmas.{all_has}
use Rattle.sqlite_rules.specs.Edit.{IsOversized, next_rowid}
use Rattle.sqlite_rules.specs.Lists.{Has as HasItem}
use Rattle.sqlite_schema.specs.Rules.{index_reals}
use Rattle.sqlite_schema.specs.declared.schema.Index.{Index}
use Rattle.sqlite_sql.specs.Catalog.{entry_of}
use Rattle.sqlite_sql.specs.Ops.{fits_i64}
use Rattle.sqlite_trees.specs.View.{IsStorable}
use Rattle.sqlite_value.specs.Order.{number}
use Rattle.sqlite_value.specs.declared.value.Value.{Value}
use Rattle.lot_stored.specs.Rows.{migration_row, this_edition}
use Rattle.lot_rows.specs.Book.{book_cells}
use Rattle.lot_rows.specs.Migration.{migration_cells}
use Rattle.lot_rows.specs.Tables.{Has, Tables, book_table, layout, migration_table, no_rows_yet}
use Rattle.lot_table.specs.Book.{BookTable, Holds}
use Rattle.lot_table.specs.Call.{LacksRoom, Puts}
use Rattle.lot_table.specs.Shape.{schema_of}
use Rattle.lot_table.specs.declared.fault.Fault.{Fault}
use Rattle.lot_table.specs.declared.fault.Fault.TheVariants.{Damaged, Device, Memory}
use Rattle.lot_store.specs.Create.{RefusedFor, create_fault_of}
use Rattle.lot_store.proofs.CreateLemmas.{only_marked}
use lib.Ieee.{is_nan}

-- ---- a row for a table without rows

no_items : {X Y : Type 0} (f : X → Y) (xs : List X) → 0 ≡ length (map f xs) → xs ≡ []
no_items f [] none = refl
no_items f (x ∷ xs) none = absurd (omega (arith, none))

abbrev whole_number : Value → Type 0
whole_number v = NotNan (number v)

-- the entry of a row in an index can be stored, where the index is of the table in that tree
abbrev KeyFits : ℕ → Row → Index → Type 0
KeyFits tree row index = index.table ≡ tree → IsStorable (index_reals 0 index.columns) (entry_of index.columns row)

-- whether none of these indexes is of the table in that tree
abbrev are_of_others : ℕ → List Index → Bool
are_of_others tree [] = true
are_of_others tree (index ∷ indexes) = cond (eqb index.table tree) false (are_of_others tree indexes)

others_fit : (tree : ℕ) (row : Row) (indexes : List Index) → are_of_others tree indexes ≡ true → AllByRecursion (KeyFits tree row) indexes
others_fit tree row [] all = tt
others_fit tree row (index ∷ indexes) all = by (eqb index.table tree) refl all (others_fit tree row indexes)
  where
    by : (b : Bool) → eqb index.table tree ≡ b → cond b false (are_of_others tree indexes) ≡ true
        → (are_of_others tree indexes ≡ true → AllByRecursion (KeyFits tree row) indexes)
        → AllByRecursion (KeyFits tree row) (index ∷ indexes)
    by true here none more = absurd cc
    by false apart all more = (λ is. absurd (eqb-false index.table tree apart is), more all)

-- ---- the row of the edition

abbrev edition_row : Row
edition_row = Int (pos 1) ∷ book_cells this_edition

edition_fits : IsStorable 0 edition_row
unfolding is_nan
edition_fits = record {
  typed = λ c set. let none = bit_at-zero c in absurd (omega (arith, set, none));
  columns = (omega arith, omega arith);
  numbers = All-from_recursion whole_number edition_row (tt, (tt, (tt, tt)));
  short = omega arith;
}

edition_key_fits : IsStorable 0 (entry_of (1 ∷ []) edition_row)
unfolding is_nan
edition_key_fits = record {
  typed = λ c set. let none = bit_at-zero c in absurd (omega (arith, set, none));
  columns = (omega arith, omega arith);
  numbers = All-from_recursion whole_number (entry_of (1 ∷ []) edition_row) (tt, (tt, tt));
  short = omega arith;
}

edition_keys_fit : (index : Index) → HasItem layout.schema.indexes index → KeyFits book_table.table.tree edition_row index
edition_keys_fit index has =
    let tree = book_table.table.tree in
    let indexes = layout.schema.indexes in
    all_has (KeyFits tree edition_row) indexes index (λ _. edition_key_fits, others_fit tree edition_row (drop 1 indexes) refl) has

-- it has room in a table without rows
pub edition_has_room : (trees : Trees) → Holds layout trees no_rows_yet → ¬ LacksRoom layout.schema book_table.table (book_cells this_edition) trees
edition_has_room trees holds lacks =
    let empty : trees book_table.table.tree ≡ [] = no_items (drop 1) (trees book_table.table.tree) (length_permutation _ _ holds.held.0.same) in
    elim (subst (λ (rows : List Row). (fits_i64 (next_rowid rows) ≡ false) ⊎ IsOversized layout.schema book_table.table (Int (next_rowid rows) ∷ book_cells this_edition)) empty lacks) [
      | inl full ↦ absurd (let e : true ≡ false = full in cc)
      | inr big ↦ elim big [ inl row ↦ row (edition_fits, omega arith) | inr key ↦ key.3 (edition_keys_fit key.0 key.1 key.2) ]
    ]

-- ---- the row of the place of migration

abbrev place_row : Row
place_row = Int (pos 1) ∷ migration_cells (migration_row 0)

place_fits : IsStorable 0 place_row
unfolding is_nan
place_fits = record {
  typed = λ c set. let none = bit_at-zero c in absurd (omega (arith, set, none));
  columns = (omega arith, omega arith);
  numbers = All-from_recursion whole_number place_row (tt, (tt, tt));
  short = omega arith;
}

place_key_fits : IsStorable 0 (entry_of (1 ∷ []) place_row)
unfolding is_nan
place_key_fits = record {
  typed = λ c set. let none = bit_at-zero c in absurd (omega (arith, set, none));
  columns = (omega arith, omega arith);
  numbers = All-from_recursion whole_number (entry_of (1 ∷ []) place_row) (tt, (tt, tt));
  short = omega arith;
}

-- its table has the last of the indexes
place_keys_fit : (index : Index) → HasItem layout.schema.indexes index → KeyFits migration_table.table.tree place_row index
place_keys_fit index has =
    let tree = migration_table.table.tree in
    let indexes = layout.schema.indexes in
    all_has (KeyFits tree place_row) indexes index
    (all-append (KeyFits tree place_row) (take 13 indexes) (drop 13 indexes) (others_fit tree place_row (take 13 indexes) refl) (λ _. place_key_fits, tt)) has

pub place_has_room : (trees : Trees) → Holds layout trees only_marked → ¬ LacksRoom layout.schema migration_table.table (migration_cells (migration_row 0)) trees
place_has_room trees holds lacks =
    let tree = migration_table.table.tree in
    let empty : trees tree ≡ [] = no_items (drop 1) (trees tree) (length_permutation _ _ holds.held.1.1.1.1.1.1.1.1.1.1.1.1.0.same) in
    elim (subst (λ (rows : List Row). (fits_i64 (next_rowid rows) ≡ false) ⊎ IsOversized layout.schema migration_table.table (Int (next_rowid rows) ∷ migration_cells (migration_row 0))) empty lacks) [
      | inl full ↦ absurd (let e : true ≡ false = full in cc)
      | inr big ↦ elim big [ inl row ↦ row (place_fits, omega arith) | inr key ↦ key.3 (place_keys_fit key.0 key.1 key.2) ]
    ]

-- ---- a put that is refused

-- the row has room in these tables, which were made in a database that had none
pub puts_none : {X : Type 0} (t : BookTable Tables X) (x : X) (tables : Tables) (old mid new : State) (fault : Fault) {A : Type 0}
    → ((trees : Trees) → Holds layout trees tables → ¬ LacksRoom layout.schema t.table (t.encode x) trees)
    → HasCleanDisk new → IsLive old → old.step_limit ≡ None → Survives old mid (λ _. ⊥)
    → (HasCleanDisk mid → old.now.schema ≡ schema_of [] → IsSound (schema_of []) old.now.trees → Has mid tables) → Puts {A = A} layout t x mid new (Err fault)
    → RefusedFor old new (create_fault_of fault)
puts_none t x tables old mid new Memory room clean live unlimited makes made puts = tt
puts_none t x tables old mid new Damaged room clean live unlimited makes made puts =
    λ opened none.
    let early : HasCleanDisk mid = omega (arith, clean, puts.crash.clean) in
    let sound : IsSound (schema_of []) old.now.trees = subst (λ s. IsSound s old.now.trees) none (live opened).0 in
    puts.damaged clean refl (makes.limit ∙ unlimited) tables tt (made early none sound)
puts_none t x tables old mid new Device room clean live unlimited makes made puts =
    λ none.
    let early : HasCleanDisk mid = omega (arith, clean, puts.crash.clean) in
    elim (cases_Bool old.is_open) [
      | inr shut ↦ inr shut
      | inl opened ↦
          let sound : IsSound (schema_of []) old.now.trees = subst (λ s. IsSound s old.now.trees) none (live opened).0 in
          let has = made early none sound in
          elim (puts.device clean refl tables tt has) [
            | inr lacks ↦ absurd (room mid.now.trees has.1 lacks)
            | inl failed ↦ elim failed [
              | inl more ↦ inl (omega (arith, more, makes.counts))
              | inr shut ↦ elim (makes.closes early opened) [
                | inl still ↦ absurd (true≢false (sym still ∙ shut))
                | inr more ↦ inl (omega (arith, more, puts.crash.counts))
              ]
            ]
          ]
    ]
