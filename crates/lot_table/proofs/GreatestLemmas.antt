-- ORDER BY the key DESC LIMIT 1 answers the greatest key of a table whose key is one column.
use Rattle.std.proofs.Common.{◌≡◌, ◌++◌, ℕ, pos, true, true≢false, IsTrue, List, [], ◌∷◌, drop, filter, map, reverse, take, refl, sym, ap, ap₂, subst, ◌∙◌, Less, IsPermutation}
use Rattle.std.proofs.lemmas.List.Sorted.{IsPermutation-map, IsPermutation-reverse, IsPermutation-sym, IsPermutation-trans}
use Rattle.std.proofs.lemmas.List.{map-append, reverse-append}
use Rattle.std.specs.List.{AllByRecursion}
use Rattle.sqlite.specs.Collation.TheVariants.{Binary}
use Rattle.sqlite.specs.Order.{Row}
use Rattle.sqlite.specs.Query.{IsAnswer, Output, Query, output_cmp}
use Rattle.sqlite.specs.Term.{Term, col, lit}
use Rattle.sqlite.specs.Tree.{IsAscending, Trees, rowid}
use Rattle.sqlite.specs.View.{is_int}
use Rattle.sqlite.specs.declared.types.Value.TheVariants.{Int, Null}
use Rattle.sqlite_exec.proofs.ScanLemmas.{ascending-reverse}
use Rattle.sqlite_keyed.proofs.ListLemmas.{ascending-map, ascending_weaker, filter_all}
use Rattle.sqlite_keyed.proofs.SortLemmas.{sorted_unique}
use Rattle.sqlite_rules.proofs.ListLemmas.{all_from}
use Rattle.sqlite_sql.proofs.QueryLemmas.{output_cmp_total}
use Rattle.sqlite_value.specs.declared.keys.Key.{Key}
use Rattle.lot_table.specs.Rows.{HasRows, columns, key_order}
use Rattle.lot_table.proofs.ReadLemmas.{arranged, out, passes, query}

abbrev pub falling : Key
falling = record { collation = Binary; descending = true }

abbrev pub shows : List Term
shows = col 1 1 ∷ []

abbrev pub order : List (Term × Key)
order = (col 1 1, falling) ∷ []

-- the greatest alone, and all from the greatest on down
abbrev pub greatest : ℕ → Query
greatest tree = record (query tree [] shows order) { limit = lit (Int (pos 1)) }

map_reversed : {A B : Type 0} (f : A → B) (xs : List A) → map f (reverse xs) ≡ reverse (map f xs)
map_reversed f [] = refl
map_reversed f (x ∷ xs) = ap (map f) (reverse-append (x ∷ []) xs) ∙ map-append f (reverse xs) (x ∷ []) ∙ ap (λ l. l ++ f x ∷ []) (map_reversed f xs) ∙ sym (reverse-append (f x ∷ []) (map f xs))

take_none : {X : Type 0} (xs : List X) → take 1 (drop 0 xs) ≡ take 1 xs
take_none [] = refl
take_none (x ∷ xs) = refl

-- an answer is the first of an answer with no limit
unlimited : (tree : ℕ) (db : Trees) (rows : List Row) → IsAnswer (greatest tree) db [] rows → (all : List Row) × IsAnswer (query tree [] shows order) db [] all × (rows ≡ take 1 all)
unlimited tree db rows a = (
  map (λ (o : Output). o.1) a.ordered,
  record { staged = a.staged; grouped = a.grouped; kept = a.kept; distinct = a.distinct; ordered = a.ordered; same = a.same; sorted = a.sorted; shown = refl },
  a.shown ∙ take_none _,
)

module _ {X : Type 0} (encode : X → Row) (first : X → Row) (tree : ℕ) (db : Trees) (firsts : (x : X) → (out tree [] shows order [] db (Null ∷ encode x)).1 ≡ first x) (xs : List X) (kept : HasRows 1 (db tree) (map encode xs)) where
  abbrev laid : Row → Output
  laid c = out tree [] shows order [] db (Null ∷ c)

  outs : (rows : List Row) → AllByRecursion (λ r. IsTrue (is_int (rowid r))) rows → map (out tree [] shows order [] db) rows ≡ map laid (map columns rows)
  outs [] keyed = refl
  outs ([] ∷ rows) keyed = absurd (true≢false (sym keyed.0))
  outs ((v ∷ c) ∷ rows) keyed = ap (λ l. laid c ∷ l) (outs rows keyed.1)

  shown_each : (ys : List X) → map (λ (o : Output). o.1) (map laid (map encode ys)) ≡ map first ys
  shown_each [] = refl
  shown_each (y ∷ ys) = ap₂ (λ f l. f ∷ l) (firsts y) (shown_each ys)

  backwards : (rows : List Row) → IsAnswer (query tree [] shows order) db [] rows → rows ≡ map first (reverse xs)
  backwards rows answer =
      let whole = query tree [] shows order in
      let a = arranged tree [] shows order [] db rows answer in
      let all : filter (passes tree [] shows order [] db) (db tree) ≡ db tree = filter_all (passes tree [] shows order [] db) (db tree) (all_from _ (db tree) (λ r h. refl)) in
      let back : map encode (reverse xs) ≡ reverse (map encode xs) = map_reversed encode xs in
      let same : IsPermutation (map laid (map encode (reverse xs))) a.ordered =
      IsPermutation-trans _ _ _ (IsPermutation-map laid _ _ (IsPermutation-trans _ _ _ (IsPermutation-map encode _ _ (IsPermutation-sym _ _ (IsPermutation-reverse xs))) (IsPermutation-sym _ _ kept.same)))
      (subst (λ l. IsPermutation l a.ordered) (ap (map (out tree [] shows order [] db)) all ∙ outs (db tree) kept.shaped.1) a.same) in
      let up = subst (IsAscending (λ c d. key_order 1 d c ≡ Less)) (sym back) (ascending-reverse (λ c d. key_order 1 c d ≡ Less) (map encode xs) kept.rises) in
      let rises = ascending-map (λ x y. output_cmp whole x y ≡ Less) laid (map encode (reverse xs)) (ascending_weaker _ (λ c d. output_cmp whole (laid c) (laid d) ≡ Less) (λ c d h. h) (map encode (reverse xs)) up) in
      a.shown ∙ ap (map (λ (o : Output). o.1)) (sorted_unique (output_cmp whole) (output_cmp_total whole) _ a.ordered rises same a.sorted) ∙ shown_each (reverse xs)

  pub greatest_shown : (rows : List Row) → IsAnswer (greatest tree) db [] rows → rows ≡ take 1 (map first (reverse xs))
  greatest_shown rows answer = let u = unlimited tree db rows answer in u.2 ∙ ap (take 1) (backwards u.0 u.1)
