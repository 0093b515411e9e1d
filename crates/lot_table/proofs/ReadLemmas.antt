-- What a query of one table answers, and what DELETE makes of the table.
use Rattle.std.proofs.Common.{◌≡◌, ℕ, zero, suc, ◌-◌, ◌^◌, nat_le, unwrap_or, slice_get, ap₂, IsTrue, true≢false, pos, negsuc, Bool, true, false, ◌&&◌, cond, None, Some, List, [], ◌∷◌, ◌++◌, map, filter, flat_map, refl, sym, ap, subst, ◌∙◌, Ordering, Less, Equal, Greater, is_eq, IsPermutation, IsSorted}
use Rattle.std.specs.List.{AllByRecursion, list_all}
use Rattle.std.specs.Ordering.{ordering_then}
use Rattle.std.proofs.lemmas.List.Sorted.{IsPermutation-map, IsPermutation-trans, IsPermutation-sym}
use Rattle.sqlite.specs.Order.{Row}
use Rattle.sqlite.specs.Tree.{Trees, rowid}
use Rattle.sqlite.specs.View.{is_int}
use Rattle.sqlite.specs.Term.{Term, lit, col, op2, eval_all, holds}
use Rattle.sqlite.specs.Ops.{binary, is_null, is_true, from_truth}
use Rattle.sqlite.specs.Program.{overlay}
use Rattle.sqlite_schema.specs.Rules.{agree}
use Rattle.sqlite.specs.Query.{Query, inner, end, Output, output, output_cmp, IsAnswer, key_cmp}
use Rattle.sqlite.specs.Collation.TheVariants.{Binary}
use Rattle.sqlite_sql.specs.declared.ops.BinaryOp.TheVariants.{Compare}
use Rattle.sqlite_sql.specs.declared.ops.CompareOp.TheVariants.{Eq}
use Rattle.sqlite_sql.proofs.QueryLemmas.{output_cmp_total}
use Rattle.sqlite_value.specs.declared.value.Value.{Value}
use Rattle.sqlite_value.specs.declared.value.Value.TheVariants.{Null, Int}
use Rattle.sqlite_value.specs.declared.keys.Key.{Key}
use Rattle.sqlite_value.specs.Order.{value_cmp, column}
use Rattle.sqlite_value.specs.Keys.{rising, plain, first_key}
use Rattle.sqlite_rules.specs.Lists.{Has}
use Rattle.sqlite_rules.proofs.ListLemmas.{all_from}
use Rattle.sqlite_keyed.proofs.ListLemmas.{map-map, filter-map, all-filter, ascending-map, ascending-filter, ascending_weaker, IsPermutation-filter}
use Rattle.sqlite_keyed.proofs.SortLemmas.{sorted_unique}
use Rattle.lot_table.specs.Rows.{columns, key_order, HasRows}
use Rattle.lot_table.proofs.KeyLemmas.{filter_alike}

-- ---- a query of one table

one_kept : {A B : Type 0} (p : A → Bool) (f : A → B) (xs : List A) → flat_map (λ x. cond (p x) (f x ∷ []) []) xs ≡ map f (filter p xs)
one_kept p f [] = refl
one_kept p f (x ∷ xs) = elim (p x) as (λ b. cond b (f x ∷ []) [] ++ flat_map (λ y. cond (p y) (f y ∷ []) []) xs ≡ map f (cond b (x ∷ filter p xs) (filter p xs))) [ true ↦ ap (λ l. f x ∷ l) (one_kept p f xs) | false ↦ one_kept p f xs ]

module _ (t : ℕ) (tests shows : List Term) (order : List (Term × Key)) where
  abbrev pub query : Query
  query = record {
    from = inner t end;
    filter = tests;
    group = None;
    project = shows;
    distinct = false;
    collations = [];
    order = order;
    limit = lit (Int (negsuc 0));
    offset = lit (Int (pos 0));
  }

  module _ (params : Row) (db : Trees) where
    abbrev pub passes : Row → Bool
    passes r = list_all (holds (params ∷ r ∷ [])) tests

    abbrev pub out : Row → Output
    out r = output query (params ∷ r ∷ [])

    -- the rows that pass, in an order that ORDER BY allows
    pub record IsArranged (rows : List Row) : Type 0 where
      pub ordered : List Output
      pub same : IsPermutation (map out (filter passes (db t))) ordered
      pub sorted : IsSorted (output_cmp query) ordered
      pub shown : rows ≡ map (λ (o : Output). o.1) ordered

    pub arranged : (rows : List Row) → IsAnswer query db params rows → IsArranged rows
    arranged rows a =
        let staged : a.staged ≡ map (λ r. params ∷ r ∷ []) (filter passes (db t)) = a.grouped ∙ one_kept passes (λ r. params ∷ r ∷ []) (db t) in
        let kept : a.kept ≡ map out (filter passes (db t)) = a.distinct ∙ ap (map (output query)) staged ∙ map-map (output query) (λ r. params ∷ r ∷ []) (filter passes (db t)) in
        record { ordered = a.ordered; same = subst (λ k. IsPermutation k a.ordered) kept a.same; sorted = a.sorted; shown = a.shown }

    pub shown_same : (rows : List Row) → IsArranged rows → IsPermutation (map (λ r. eval_all shows (params ∷ r ∷ [])) (filter passes (db t))) rows
    shown_same rows a =
        subst (IsPermutation (map (λ r. eval_all shows (params ∷ r ∷ [])) (filter passes (db t)))) (sym a.shown)
        (subst (λ l. IsPermutation l (map (λ (o : Output). o.1) a.ordered)) (map-map (λ (o : Output). o.1) out (filter passes (db t))) (IsPermutation-map (λ (o : Output). o.1) _ _ a.same))

    -- WHERE picks rows by their columns, and ORDER BY is by the key of the table
    module _ {X : Type 0} (encode : X → Row) (width : ℕ) (xs : List X) (kept : HasRows width (db t) (map encode xs)) (blind : (v : Value) (c : Row) → out (v ∷ c) ≡ out (Null ∷ c))
        (shown : (x : X) → eval_all shows (params ∷ (Null ∷ encode x) ∷ []) ≡ encode x) (sorts : (c d : Row) → output_cmp query (out (Null ∷ c)) (out (Null ∷ d)) ≡ key_order width c d)
        (p : Row → Bool) (alike : (r : Row) → Has (db t) r → passes r ≡ p (columns r)) where
      abbrev laid : Row → Output
      laid c = out (Null ∷ c)

      out_is : (r : Row) → IsTrue (is_int (rowid r)) → out r ≡ laid (columns r)
      out_is [] keyed = absurd (true≢false (sym keyed))
      out_is (v ∷ c) keyed = blind v c

      outs : (rows : List Row) → AllByRecursion (λ r. IsTrue (is_int (rowid r))) rows → map out rows ≡ map laid (map columns rows)
      outs [] keyed = refl
      outs (r ∷ rows) keyed = ap₂ (λ x l. x ∷ l) (out_is r keyed.0) (outs rows keyed.1)

      shown_all : (ys : List X) → map (λ (o : Output). o.1) (map laid (map encode ys)) ≡ map encode ys
      shown_all [] = refl
      shown_all (y ∷ ys) = ap₂ (λ x l. x ∷ l) (shown y) (shown_all ys)

      pub picked : (rows : List Row) → IsAnswer query db params rows → rows ≡ map encode (filter (λ x. p (encode x)) xs)
      picked rows answer =
          let a = arranged rows answer in
          let some : filter passes (db t) ≡ filter (λ r. p (columns r)) (db t) = filter_alike passes (λ r. p (columns r)) (db t) (all_from _ (db t) alike) in
          let whole : filter p (map encode xs) ≡ map encode (filter (λ x. p (encode x)) xs) = filter-map p encode xs in
          let laid_out = ap (map out) some ∙ outs (filter (λ r. p (columns r)) (db t)) (all-filter _ (λ r. p (columns r)) (db t) kept.shaped.1) ∙ ap (map laid) (sym (filter-map p columns (db t))) in
          let same : IsPermutation (map laid (filter p (map encode xs))) a.ordered =
          IsPermutation-trans _ _ _ (IsPermutation-sym _ _ (IsPermutation-map laid _ _ (IsPermutation-filter p _ _ kept.same))) (subst (λ l. IsPermutation l a.ordered) laid_out a.same) in
          let up = ascending-filter _ p (map encode xs) kept.rises in
          let rises = ascending-map (λ x y. output_cmp query x y ≡ Less) laid (filter p (map encode xs)) (ascending_weaker _ (λ c d. output_cmp query (laid c) (laid d) ≡ Less) (λ c d h. sorts c d ∙ h) (filter p (map encode xs)) up) in
          a.shown ∙ ap (map (λ (o : Output). o.1)) (sorted_unique (output_cmp query) (output_cmp_total query) _ a.ordered rises same a.sorted ∙ ap (map laid) whole) ∙ shown_all (filter (λ x. p (encode x)) xs)

-- ---- a key that is given

-- no column of the key is NULL
abbrev pub IsPresent : ℕ → ℕ → Row → Type 0
IsPresent zero at row = Unit {0}
IsPresent (suc n) at row = (is_null (column row at) ≡ false) × IsPresent n (suc at) row

-- the columns of the key equal the parameters
abbrev pub key_terms : ℕ → ℕ → List Term
key_terms zero at = []
key_terms (suc n) at = op2 (Compare Eq Binary) (col 1 (suc at)) (col 0 at) ∷ key_terms n (suc at)

abbrev pub key_places : ℕ → ℕ → List ℕ
key_places zero at = []
key_places (suc n) at = suc at ∷ key_places n (suc at)

pub true_if : (b : Bool) → is_true (from_truth (Some b)) ≡ b
true_if true = refl
true_if false = refl

pub compared : (a b : Value) → is_null a ≡ false → is_null b ≡ false → is_true (binary (Compare Eq Binary) a b) ≡ is_eq (value_cmp a b)
unfolding binary
compared a b p q = rw (p, q) (true_if (is_eq (value_cmp a b)))

both_eq : (a b : Ordering) → is_eq (ordering_then a b) ≡ (is_eq a && is_eq b)
both_eq Less b = refl
both_eq Equal b = refl
both_eq Greater b = refl

pub tests_are : (n at : ℕ) (v : Value) (c key : Row) → IsPresent n at c → IsPresent n at key → list_all (holds (key ∷ (v ∷ c) ∷ [])) (key_terms n at) ≡ is_eq (key_cmp at (rising n []) c key)
tests_are zero at v c key p q = refl
tests_are (suc n) at v c key p q =
    ap₂ ◌&&◌ (compared (column c at) (column key at) p.0 q.0) (tests_are n (suc at) v c key p.1 q.1) ∙ sym (both_eq (value_cmp (column c at) (column key at)) (key_cmp (suc at) (rising n []) c key))

pub agree_is : (n at : ℕ) (v w : Value) (c d : Row) → IsPresent n at c → IsPresent n at d → agree plain (key_places n at) (v ∷ c) (key_places n at) (w ∷ d) ≡ is_eq (key_cmp at (rising n []) c d)
unfolding first_key
agree_is zero at v w c d p q = refl
agree_is (suc n) at v w c d p q =
    ap₂ ◌&&◌ (compared (column c at) (column d at) p.0 q.0) (agree_is n (suc at) v w c d p.1 q.1) ∙ sym (both_eq (value_cmp (column c at) (column d at)) (key_cmp (suc at) (rising n []) c d))

pub plain_overlay : (db : Trees) → overlay db [] ≡ db
plain_overlay db i t = (elim (nat_le (2 ^ 31) t) as (λ b. unwrap_or (cond b (slice_get [] (t - 2 ^ 31)) None) (db t) ≡ db t) [ true ↦ refl | false ↦ refl ]) i
