-- A table under its key after rows are taken out and put in.
use Rattle.std.proofs.Common.{◌≡◌, inl, inr, ℕ, ℤ, Bool, true, false, not, ◌||◌, cond, List, [], ◌∷◌, map, filter, refl, sym, ap, subst, ◌∙◌, Ordering, Less, Equal, Greater, is_gt, is_eq, true≢false, IsPermutation, IsTrue}
use Rattle.std.specs.List.{AllByRecursion, list_any}
use Rattle.std.specs.Cmp.{IsTotalOrder}
use Rattle.std.specs.Ordering.{match_ordering, ordering_reverse}
use Rattle.std.proofs.lemmas.Bool.{cases_Bool}
use Rattle.std.proofs.lemmas.Cmp.{tied_itself}
use Rattle.std.proofs.lemmas.List.Sorted.{IsPermutation-refl, IsPermutation-cons, IsPermutation-trans, IsPermutation-middle, IsPermutation-sym, IsPermutation-map}
use Rattle.sqlite.specs.Order.{Row}
use Rattle.sqlite.specs.Tree.{IsAscending, rowid, has_rowid, put_row, without_rowid}
use Rattle.sqlite.specs.View.{IsShaped, is_int}
use Rattle.sqlite_value.specs.Order.{value_cmp}
use Rattle.sqlite_value.specs.declared.value.Value.TheVariants.{Int}
use Rattle.sqlite_value.proofs.OrderLemmas.{value_cmp_total}
use Rattle.sqlite_trees.specs.declared.store.Shape.TheVariants.{Table}
use Rattle.sqlite_trees.proofs.TreeLemmas.{IsTable-put_row}
use Rattle.sqlite_rules.specs.Edit.{id_in, without_all, is_taken}
use Rattle.sqlite_rules.specs.Calls.{ids_of}
use Rattle.sqlite_rules.specs.Lists.{Has}
use Rattle.sqlite_rules.proofs.ListLemmas.{all_has, all_from, some_has, some_from, has_filtered}
use Rattle.sqlite_rules.proofs.TableLemmas.{int_is, put_has}
use Rattle.sqlite_rules.proofs.PlaceLemmas.{tied_same}
use Rattle.sqlite_sql.proofs.QueryLemmas.{key_cmp_total}
use Rattle.sqlite_value.specs.Keys.{rising}
use Rattle.sqlite_keyed.specs.Lists.{insert_sorted}
use Rattle.sqlite_keyed.proofs.ListLemmas.{filter_all, filter-map, all_weaker, ascending-filter, IsPermutation-filter}
use Rattle.lot_cost.proofs.OrderLemmas.{is_equal}
use Rattle.lot_table.specs.Rows.{columns, key_order, has_key, HasRows, without_row, with_row}

-- ---- a list in the order of a key

module _ {X : Type 0} (cmp : X → X → Ordering) (total : IsTotalOrder cmp) where
  all-inserted : (P : X → Type 0) (new : X) (xs : List X) → P new → AllByRecursion P xs → AllByRecursion P (insert_sorted cmp new xs)
  all-inserted P new [] h all = (h, tt)
  all-inserted P new (x ∷ xs) h all =
      elim (is_gt (cmp new x)) as (λ b. AllByRecursion P (cond b (x ∷ insert_sorted cmp new xs) (new ∷ x ∷ xs))) [ true ↦ (all.0, all-inserted P new xs h all.1) | false ↦ (h, all) ]

  rises-inserted : (new : X) (xs : List X) → AllByRecursion (λ y. is_eq (cmp y new) ≡ false) xs → IsAscending (λ a b. cmp a b ≡ Less) xs → IsAscending (λ a b. cmp a b ≡ Less) (insert_sorted cmp new xs)
  rises-inserted new [] apart up = (tt, tt)
  rises-inserted new (x ∷ xs) apart up = go (cmp new x) refl (rises-inserted new xs apart.1 up.1)
    where
      go : (o : Ordering) → cmp new x ≡ o → IsAscending (λ a b. cmp a b ≡ Less) (insert_sorted cmp new xs)
          → IsAscending (λ a b. cmp a b ≡ Less) (cond (is_gt o) (x ∷ insert_sorted cmp new xs) (new ∷ x ∷ xs))
      go Less e more = ((e, all_weaker _ (λ y. cmp new y ≡ Less) (λ y. total.trans new x y e) xs up.0), up)
      go Equal e more = absurd (true≢false (sym (ap is_eq (total.antisymm x new ∙ ap ordering_reverse e)) ∙ apart.0))
      go Greater e more = (all-inserted _ new xs (total.antisymm x new ∙ ap ordering_reverse e) up.0, more)

  same-inserted : (new : X) (xs : List X) → IsPermutation (new ∷ xs) (insert_sorted cmp new xs)
  same-inserted new [] = IsPermutation-refl _
  same-inserted new (x ∷ xs) =
      elim (is_gt (cmp new x)) as (λ b. IsPermutation (new ∷ x ∷ xs) (cond b (x ∷ insert_sorted cmp new xs) (new ∷ x ∷ xs))) [
        | true ↦ IsPermutation-trans _ _ _ (IsPermutation-middle (new ∷ []) x xs) (IsPermutation-cons x _ _ (same-inserted new xs))
        | false ↦ IsPermutation-refl _
      ]

-- ---- rows are taken out by their rowids

filter-both : {X : Type 0} (p q : X → Bool) (xs : List X) → filter p (filter (λ x. not (q x)) xs) ≡ filter (λ x. cond (q x) false (p x)) xs
filter-both p q [] = refl
filter-both p q (x ∷ xs) =
    elim (q x) as (λ b. filter p (cond (not b) (x ∷ filter (λ y. not (q y)) xs) (filter (λ y. not (q y)) xs)) ≡ cond (cond b false (p x)) (x ∷ filter (λ y. cond (q y) false (p y)) xs) (filter (λ y. cond (q y) false (p y)) xs))
    [ true ↦ filter-both p q xs | false ↦ ap (λ l. cond (p x) (x ∷ l) l) (filter-both p q xs) ]

pub filter_alike : {X : Type 0} (p q : X → Bool) (xs : List X) → AllByRecursion (λ x. p x ≡ q x) xs → filter p xs ≡ filter q xs
filter_alike p q [] all = refl
filter_alike p q (x ∷ xs) all = rw (all.0, filter_alike p q xs all.1)

abbrev is_named : List ℤ → Row → Bool
is_named ids r = list_any (λ id. has_rowid id r) ids

out_as_filter : (ids : List ℤ) (rows : List Row) → without_all rows ids ≡ filter (λ r. not (is_named ids r)) rows
out_as_filter [] rows = sym (filter_all _ rows (all_from _ rows (λ x h. refl)))
out_as_filter (id ∷ ids) rows =
    out_as_filter ids (without_rowid id rows) ∙ filter-both (λ r. not (is_named ids r)) (has_rowid id) rows
    ∙ filter_alike _ (λ r. not (is_named (id ∷ ids) r)) rows (all_from _ rows (λ r h. elim (has_rowid id r) as (λ b. cond b false (not (is_named ids r)) ≡ not (b || is_named ids r)) [ true ↦ refl | false ↦ refl ]))

pub mapped_has : {A B : Type 0} (f : A → B) (xs : List A) (x : A) → Has xs x → Has (map f xs) (f x)
mapped_has f [] x h = absurd h
mapped_has f (y ∷ xs) x (inl same) = inl (ap f same)
mapped_has f (y ∷ xs) x (inr later) = inr (mapped_has f xs x later)

pub has_mapped : {A B : Type 0} (f : A → B) (xs : List A) (y : B) → Has (map f xs) y → (x : A) × Has xs x × (y ≡ f x)
has_mapped f [] y h = absurd h
has_mapped f (x ∷ xs) y (inl same) = (x, inl refl, same)
has_mapped f (x ∷ xs) y (inr later) = let r = has_mapped f xs y later in (r.0, inr r.1, r.2)

-- these are the rowids of the rows that pass the test
pub record AreNamed (tree : List Row) (p : Row → Bool) (found : List Row) : Type 0 where
  pub sound : (x : Row) → Has found x → (r : Row) × Has tree r × (p r ≡ true) × (x ≡ rowid r ∷ [])
  pub complete : (r : Row) → Has tree r → p r ≡ true → Has found (rowid r ∷ [])

named_as : (tree : List Row) (p : Row → Bool) (found : List Row) → IsShaped Table tree → AreNamed tree p found → (r : Row) → Has tree r → is_named (ids_of found) r ≡ p r
named_as tree p found shaped named r h =
    let own = int_is (rowid r) (all_has (λ x. IsTrue (is_int (rowid x))) tree r shaped.1 h) in
    elim (cases_Bool (p r)) [
      | inl passes ↦
          some_from (λ id. has_rowid id r) (ids_of found) (id_in (rowid r)) (mapped_has (λ x. id_in (rowid x)) found (rowid r ∷ []) (named.complete r h passes))
          (ap (λ v. is_eq (value_cmp (rowid r) v)) (sym own) ∙ ap is_eq (tied_itself value_cmp_total (rowid r)))
          ∙ sym passes
      | inr fails ↦ elim (cases_Bool (is_named (ids_of found) r)) [
        | inl passes ↦
            let s = some_has (λ id. has_rowid id r) (ids_of found) passes in
            let m = has_mapped (λ x. id_in (rowid x)) found s.0 s.1 in
            let t = named.sound m.0 m.1 in
            let there = int_is (rowid t.0) (all_has (λ x. IsTrue (is_int (rowid x))) tree t.0 shaped.1 t.1) in
            let id : s.0 ≡ id_in (rowid t.0) = m.2 ∙ ap (λ x. id_in (rowid x)) t.3 in
            let tie : value_cmp (rowid r) (rowid t.0) ≡ Equal = ap (value_cmp (rowid r)) there ∙ ap (λ n. value_cmp (rowid r) (Int n)) (sym id) ∙ is_equal _ s.2 in
            passes ∙ sym t.2 ∙ ap p (sym (tied_same tree r t.0 shaped.0 h t.1 tie))
        | inr none ↦ none ∙ sym fails
      ]
    ]

pub taken_out : (tree : List Row) (p : Row → Bool) (found : List Row) → IsShaped Table tree → AreNamed tree p found → without_all tree (ids_of found) ≡ filter (λ r. not (p r)) tree
taken_out tree p found shaped named =
    out_as_filter (ids_of found) tree ∙ filter_alike _ (λ r. not (p r)) tree (all_from _ tree (λ r h. ap not (named_as tree p found shaped named r h)))

-- ---- what is kept

filter-passes : {X : Type 0} (p : X → Bool) (xs : List X) → AllByRecursion (λ x. p x ≡ true) (filter p xs)
filter-passes p xs = all_from _ (filter p xs) (λ x h. (has_filtered p xs x h).1)

pub not_passed : (b : Bool) → not b ≡ true → b ≡ false
not_passed true h = absurd (true≢false (sym h))
not_passed false h = refl

module _ (width : ℕ) where
  abbrev pub spares : Row → Row → Bool
  spares key r = not (has_key width key (columns r))

  pub kept_without : (tree rows : List Row) (key : Row) → HasRows width tree rows → HasRows width (filter (spares key) tree) (without_row width key rows)
  kept_without tree rows key kept = record {
    shaped = (ascending-filter _ (spares key) tree kept.shaped.0, all_from _ (filter (spares key) tree) (λ r h. all_has (λ x. IsTrue (is_int (rowid x))) tree r kept.shaped.1 (has_filtered (spares key) tree r h).0));
    same = subst (λ l. IsPermutation l (without_row width key rows)) (filter-map (λ r. not (has_key width key r)) columns tree) (IsPermutation-filter (λ r. not (has_key width key r)) _ _ kept.same);
    rises = ascending-filter _ (λ r. not (has_key width key r)) rows kept.rises;
  }

  put_same : (new : Row) (rows : List Row) → is_taken rows new ≡ false → IsPermutation (new ∷ rows) (put_row new rows)
  put_same new [] free = IsPermutation-refl _
  put_same new (r ∷ rows) free = go (value_cmp (rowid r) (rowid new)) free (put_same new rows)
    where
      go : (o : Ordering) → (is_eq o || is_taken rows new) ≡ false → (is_taken rows new ≡ false → IsPermutation (new ∷ rows) (put_row new rows))
          → IsPermutation (new ∷ r ∷ rows) (match_ordering o (r ∷ put_row new rows) (new ∷ rows) (new ∷ r ∷ rows))
      go Less h more = IsPermutation-trans _ _ _ (IsPermutation-middle (new ∷ []) r rows) (IsPermutation-cons r _ _ (more h))
      go Equal h more = absurd (true≢false h)
      go Greater h more = IsPermutation-refl _

  still_free : (p : Row → Bool) (rows : List Row) (new : Row) → is_taken rows new ≡ false → is_taken (filter p rows) new ≡ false
  still_free p rows new free = elim (cases_Bool (is_taken (filter p rows) new)) [
    | inl taken ↦
        let s = some_has (λ r. is_eq (value_cmp (rowid r) (rowid new))) (filter p rows) taken in
        absurd (true≢false (sym (some_from (λ r. is_eq (value_cmp (rowid r) (rowid new))) rows s.0 (has_filtered p rows s.0 s.1).0 s.2) ∙ free))
    | inr none ↦ none
  ]

  -- the rows with this one in the place of that of its key, at a rowid that the others don't have
  pub kept_set : (tree rows : List Row) (new : Row) → HasRows width tree rows → IsTrue (is_int (rowid new)) → is_taken (filter (spares (columns new)) tree) new ≡ false
      → HasRows width (put_row new (filter (spares (columns new)) tree)) (with_row width (columns new) rows)
  kept_set tree rows new kept keyed free =
      let key = columns new in
      let mid = filter (spares key) tree in
      let was : HasRows width mid (without_row width key rows) = kept_without tree rows key kept in
      let order = key_order width in
      let total = key_cmp_total (rising width []) 0 in
      record {
        shaped = (
          IsTable-put_row new mid was.shaped.0,
          all_from _ (put_row new mid) (λ r h. elim (put_has new mid r h) [
            | inl same ↦ rw same keyed
            | inr old ↦ all_has (λ x. IsTrue (is_int (rowid x))) mid r was.shaped.1 old
          ]),
        );
        same = IsPermutation-trans _ _ _ (IsPermutation-map columns _ _ (IsPermutation-sym _ _ (put_same new mid free)))
            (IsPermutation-trans _ _ _ (IsPermutation-cons key _ _ was.same) (same-inserted order total key (without_row width key rows)));
        rises = rises-inserted order total key (without_row width key rows)
            (all_weaker _ (λ r. is_eq (order r key) ≡ false) (λ r h. not_passed _ h) _ (filter-passes (λ r. not (has_key width key r)) rows)) was.rises;
      }

  -- the same at a rowid that is free
  pub kept_with : (tree rows : List Row) (new : Row) → HasRows width tree rows → IsTrue (is_int (rowid new)) → is_taken tree new ≡ false
      → HasRows width (put_row new (filter (spares (columns new)) tree)) (with_row width (columns new) rows)
  kept_with tree rows new kept keyed free = kept_set tree rows new kept keyed (still_free (spares (columns new)) tree new free)
