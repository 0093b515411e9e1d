-- What DELETE by a key makes of a table.
use Rattle.std.proofs.lemmas.List.Elements.{recursion_from_All}
use Rattle.std.proofs.Common.{◌≡◌, ◌<◌, All, get_or, length, ℕ, true, false, cond, Option, None, Ok, List, [], ◌∷◌, map, filter, refl, sym, ap, subst, ◌∙◌, is_gt, IsPermutation, Ordering}
use Rattle.std.proofs.lemmas.List.Sorted.{IsPermutation-sym, Contains-permutation}
use Rattle.sqlite.specs.Order.{Row}
use Rattle.sqlite.specs.Tree.{Trees, rowid}
use Rattle.sqlite.specs.View.{IsShaped}
use Rattle.sqlite.specs.Term.{Term, col}
use Rattle.sqlite.specs.Query.{IsAnswer}
use Rattle.sqlite.specs.Effect.{Database, Answers}
use Rattle.sqlite.specs.Rows.{Task, Written}
use Rattle.sqlite.specs.Does.{Tally, OnRows}
use Rattle.sqlite.specs.declared.error.Error.{Error}
use Rattle.sqlite.specs.declared.run.Mode.{Mode}
use Rattle.sqlite.specs.Command.TheVariants.{Delete}
use Rattle.sqlite_value.specs.declared.value.Value.TheVariants.{Null}
use Rattle.sqlite_trees.specs.declared.store.Shape.TheVariants.{Table}
use Rattle.sqlite_rules.specs.Action.{works}
use Rattle.sqlite_rules.specs.Calls.{ids_of}
use Rattle.sqlite_rules.specs.declared.error.Rowids.TheVariants.{Given}
use Rattle.sqlite_rules.specs.Lists.{Has}
use Rattle.sqlite_rules.proofs.ListLemmas.{has_at, all_has, has_contained, contains_had, has_filtered, has_kept}
use Rattle.sqlite_keyed.specs.Lists.{insert_sorted}
use Rattle.lot_table.specs.Rows.{columns, has_key}
use Rattle.lot_table.proofs.KeyLemmas.{spares, AreNamed, taken_out, has_mapped, mapped_has}
use Rattle.lot_table.proofs.WriteLemmas.{KeepsOthers, went, same_value, steps}
use Rattle.lot_table.proofs.ReadLemmas.{query, passes, arranged, shown_same, plain_overlay}

pub has_permuted : {X : Type 0} (xs ys : List X) (x : X) → IsPermutation xs ys → Has xs x → Has ys x
has_permuted xs ys x same h = has_contained ys x (Contains-permutation xs ys x same (contains_had xs x h))

-- an answer with no WITH is one over the tables themselves
pub answers : (t : ℕ) (tests shows : List Term) (order : List (Term × Rattle.sqlite_value.specs.declared.keys.Key.Key)) (db : Database) (params : Row) (rows : List Row)
    → Answers db (record { lets = []; body = query t tests shows order }) params rows → IsAnswer (query t tests shows order) db.trees params rows
answers t tests shows order db params rows h = subst (λ d. IsAnswer (query t tests shows order) d params rows) (plain_overlay db.trees) (h.answer Null)

module _ (task : Task) (unreferred : (olds news : List Row) → works task.schema task.keys 0 task.table.tree olds news ≡ []) (width : ℕ) (tests : List Term) (key : Row) (db : Trees)
    (shaped : IsShaped Table (db task.table.tree)) (alike : (r : Row) → Has (db task.table.tree) r → passes task.table.tree tests (col 1 0 ∷ []) [] task.params db r ≡ has_key width key (columns r)) where
  abbrev at : ℕ
  at = task.table.tree

  pub deletes : (mode : Mode) (place : ℕ) (out : Tally × Database) → OnRows task mode None (Delete place (record { lets = []; body = query at tests (col 1 0 ∷ []) [] })) db (Ok out)
      → (out.1.trees at ≡ filter (spares width key) (db at)) × KeepsOthers task.schema at db out.1.trees × (out.1.schema ≡ task.schema)
  deletes mode place out h =
      let w = went h in
      let now = went w.2 in
      let last = went now.2 in
      let found = went w.1 in
      let done = went found.2 in
      let same = shown_same at tests (col 1 0 ∷ []) [] task.params db found.0 (arranged at tests (col 1 0 ∷ []) [] task.params db found.0 (answers at tests (col 1 0 ∷ []) [] _ task.params found.0 found.1)) in
      let test = passes at tests (col 1 0 ∷ []) [] task.params db in
      let id = λ (r : Row). rowid r ∷ [] in
      let named : AreNamed (db at) (λ r. has_key width key (columns r)) found.0 = record {
        sound = λ x h.
            let m = has_mapped id (filter test (db at)) x (has_permuted _ _ x (IsPermutation-sym _ _ same) h) in
            let f = has_filtered test (db at) m.0 m.1 in
            (m.0, f.0, sym (alike m.0 f.0) ∙ f.1, m.2);
        complete = λ r h k. has_permuted _ _ (rowid r ∷ []) same (mapped_has id (filter test (db at)) r (has_kept test (db at) r h (alike r h ∙ k)));
      } in
      let s = steps task unreferred db done.0 (ids_of found.0) Given 0 [] done.1 in
      let trees : out.1 ≡ record { schema = task.schema; trees = w.0.trees } = ap (λ (o : Tally × Database). o.1) (same_value {E = Option Error} last.2) in
      let written : out.1.trees ≡ done.0 = ap (λ (d : Database). d.trees) trees ∙ ap (λ (o : Written). o.trees) (same_value {E = Option Error} done.2) in
      (ap (λ (t : Trees). t at) written ∙ s.0 ∙ taken_out (db at) (λ r. has_key width key (columns r)) found.0 shaped named, subst (KeepsOthers task.schema at db) (sym written) s.1, ap (λ (d : Database). d.schema) trees)

-- ---- typed rows

pub insert_sorted-map : {A B : Type 0} (cmp : B → B → Ordering) (f : A → B) (new : A) (xs : List A) → insert_sorted cmp (f new) (map f xs) ≡ map f (insert_sorted (λ a b. cmp (f a) (f b)) new xs)
insert_sorted-map cmp f new [] = refl
insert_sorted-map cmp f new (x ∷ xs) =
    elim (is_gt (cmp (f new) (f x))) as (λ b. cond b (f x ∷ insert_sorted cmp (f new) (map f xs)) (f new ∷ f x ∷ map f xs) ≡ map f (cond b (x ∷ insert_sorted (λ a c. cmp (f a) (f c)) new xs) (new ∷ x ∷ xs)))
    [ true ↦ ap (λ l. f x ∷ l) (insert_sorted-map cmp f new xs) | false ↦ refl ]

-- each row of a list of encoded values is the row of one of them
pub row_named : {X : Type 0} (P : X → Type 0) (encode : X → Row) (rows : List Row) (xs : List X) (n : ℕ) (r : Row) → n < length rows → r ≡ get_or rows n r → rows ≡ map encode xs → All P xs
    → (x : X) × P x × (r ≡ encode x)
row_named P encode rows xs n r within is same all =
    let m = has_mapped encode xs r (subst (λ l. Has l r) same (has_at rows n r within is)) in
    (m.0, all_has P xs m.0 (recursion_from_All P xs all) m.1, m.2)
