-- Sets of what a command looks at: adding to them, and that facts that agree on the sets agree for the command.
use Rattle.std.specs.Prelude.{◌≡◌, ℕ, Bool, true, false, cond, ◌||◌, List, [], ◌∷◌, ◌++◌, length, ◌<◌, ◌+◌, flat_map, map, get_or, take, IsTrue}
use Rattle.std.specs.declared.cmp.Ordering.{Ordering}
use Rattle.std.specs.BTreeMap.{is_at}
use Rattle.std.specs.BTreeSet.{BTreeSet, IsFromIterResult, IsOrdered, Updates}
use Rattle.std.specs.Cmp.{IsTotalOrder, eq_by_cmp_equiv}
use Rattle.std.specs.List.{AllByRecursion, list_any}
use Rattle.std.specs.Ordering.{eq_by_cmp}
use Rattle.std.proofs.Common.{refl, sym, ap, subst, ◌∙◌, append_assoc, append-nil}
use Rattle.std.proofs.lemmas.Bool.{true≢false}
use Rattle.std.proofs.lemmas.Cmp.{then_total, on_total, nat_list_cmp_total}
use Rattle.std.proofs.lemmas.Grind.{flat_map-append}
use Rattle.std.proofs.lemmas.List.{take_more}
use Rattle.std.proofs.lemmas.List.Concat.{flat_map_single}
use Rattle.std.proofs.lemmas.List.Folds.{list_any-append}
use Rattle.std.proofs.lemmas.List.Elements.{recursion_from_All}
use Rattle.std.proofs.lemmas.Map.Views.{All-contains_from_tree_list}
use Rattle.std.proofs.lemmas.Map.Lookups.{CmpEqualImpliesEq, exact_bytes}
use Rattle.lot_base.specs.Text.{text_cmp}
use Rattle.lot_base.proofs.OrderLemmas.{equal_parts}
use Rattle.lot_cost.proofs.OrderLemmas.{is_equal}
use Rattle.lot_command.specs.declared.command.Command.{Command}
use Rattle.lot_book.specs.declared.change.Pair.{Pair}
use Rattle.lot_view.specs.declared.touched.Touched.{Touched}
use Rattle.lot_book.specs.Agree.{Agrees, AgreesOn}
use Rattle.lot_book.specs.Facts.{Facts}
use Rattle.lot_book.specs.Touched.{accounts_in, declared_in, pairs_in, plain_in}
use Rattle.lot_view.specs.Sets.{Adds}
use Rattle.lot_book.specs.Change.{pair_cmp}

pub pairs_total : IsTotalOrder pair_cmp
pairs_total = then_total (on_total (λ (p : Pair). p.account) nat_list_cmp_total)
    (on_total (λ (p : Pair). p.commodity) nat_list_cmp_total)

pub exact_pairs : CmpEqualImpliesEq pair_cmp
exact_pairs p q e =
    let parts = equal_parts (text_cmp p.account q.account) (text_cmp p.commodity q.commodity) e in
    λ i. record { account = exact_bytes p.account q.account parts.0 i; commodity = exact_bytes p.commodity q.commodity parts.1 i }

module _ {K : Type 0} (cmp : K → K → Ordering) where
  pub adds_none : (s : BTreeSet K) → Adds cmp s [] s
  adds_none s keys is = subst (λ ks. IsFromIterResult cmp ks s) (sym (append-nil keys)) is

  pub adds_more : (s m n : BTreeSet K) (xs ys : List K) → Adds cmp s xs m → Adds cmp m ys n → Adds cmp s (xs ++ ys) n
  adds_more s m n xs ys first second keys is =
      subst (λ ks. IsFromIterResult cmp ks n) (append_assoc keys xs ys) (second (keys ++ xs) (first keys is))

  -- what one more element of a list is mapped to
  pub adds_next : {X : Type 0} (f : X → List K) (s m n : BTreeSet K) (xs : List X) (i : ℕ) (x : X) → i < length xs
      → x ≡ get_or xs i x
      → Adds cmp s (flat_map f (take i xs)) m → Adds cmp m (f x) n → Adds cmp s (flat_map f (take (i + 1) xs)) n
  adds_next f s m n xs i x inside is first second =
      let parts : flat_map f (take i xs) ++ f x ≡ flat_map f (take (i + 1) xs) =
      ap (λ y. flat_map f (take i xs) ++ f y) is
      ∙ ap (λ ys. flat_map f (take i xs) ++ ys) (sym (append-nil (f (get_or xs i x))))
      ∙ sym (ap (flat_map f) (take_more xs i x inside) ∙ flat_map-append f (take i xs) (get_or xs i x ∷ [])) in
      subst (λ items. Adds cmp s items n) parts (adds_more s m n (flat_map f (take i xs)) (f x) first second)

  pub adds_next_one : {X : Type 0} (f : X → K) (s m n : BTreeSet K) (xs : List X) (i : ℕ) (x : X) → i < length xs
      → x ≡ get_or xs i x
      → Adds cmp s (map f (take i xs)) m → Adds cmp m (f x ∷ []) n → Adds cmp s (map f (take (i + 1) xs)) n
  adds_next_one {X} f s m n xs i x inside is first second =
      let one : X → List K = λ y. f y ∷ [] in
      subst (λ items. Adds cmp s items n) (flat_map_single f (take (i + 1) xs))
      (adds_next one s m n xs i x inside is (subst (λ items. Adds cmp s items m)
      (sym (flat_map_single f (take i xs))) first) second)

  module _ (total : IsTotalOrder cmp) where
    one_more : (t b : Bool) → cond t true b ≡ (b || (t || false))
    one_more true true = refl
    one_more true false = refl
    one_more false true = refl
    one_more false false = refl

    pub adds_one : (s n : BTreeSet K) (k : K) → Updates cmp s n k true → IsOrdered cmp n → Adds cmp s (k ∷ []) n
    adds_one s n k updates ordered keys is = (
      λ q. updates.0 q ∙ ap (λ b. cond (eq_by_cmp cmp k q) true b) (is.0 q)
          ∙ one_more (eq_by_cmp cmp k q) (list_any (eq_by_cmp cmp q) keys)
          ∙ ap (λ t. list_any (eq_by_cmp cmp q) keys || (t || false)) ((eq_by_cmp_equiv total).symm k q)
          ∙ sym (list_any-append (eq_by_cmp cmp q) keys (k ∷ [])),
      ordered,
    )

    -- a set of one item
    pub adds_first : (s n : BTreeSet K) (k item : K) → k ≡ item → Updates cmp s n k true → IsOrdered cmp n
        → IsFromIterResult cmp [] s → IsFromIterResult cmp (item ∷ []) n
    adds_first s n k item is updates ordered none = subst (λ i. IsFromIterResult cmp (i ∷ []) n) is
        (adds_one s n k updates ordered [] none)

  -- ---- what is so of the keys of a set is so of its items

  module _ (total : IsTotalOrder cmp) (exact : CmpEqualImpliesEq cmp) (P : K → Type 0) where
    of_key : (keys : List K) (k : K) → AllByRecursion P keys → list_any (is_at (cmp k)) keys ≡ true → P k
    of_key [] k all e = absurd (true≢false (sym e))
    of_key (x ∷ xs) k all e =
        elim (is_at (cmp k) x) as (λ t. is_at (cmp k) x ≡ t → (t || list_any (is_at (cmp k)) xs) ≡ true → P k) [
          | true ↦ λ is _. subst P (sym (exact k x (is_equal (cmp k x) is))) all.0
          | false ↦ λ is more. of_key xs k all.1 more
        ] refl e

    test_is : (b : Bool) → IsTrue b → b ≡ true
    test_is true is = refl
    test_is false is = absurd (true≢false (sym is))

    pub of_items : (items : List K) (s : BTreeSet K) → IsFromIterResult cmp items s → AllByRecursion P s.keys
        → AllByRecursion P items
    of_items items s is all =
        recursion_from_All P items
        (λ i x inside. of_key s.keys (get_or items i x) all (test_is (list_any (is_at (cmp (get_or items i x))) s.keys)
        (All-contains_from_tree_list total items s is i x inside)))

-- the sets have what a command looks at
pub record AreTouched (command : Command) (t : Touched) : Type 0 where
  pub accounts : IsFromIterResult text_cmp (accounts_in command) t.accounts
  pub declared : IsFromIterResult text_cmp (declared_in command) t.declared
  pub pairs : IsFromIterResult pair_cmp (pairs_in command) t.pairs
  pub plain : IsFromIterResult text_cmp (plain_in command) t.plain

pub touched_at : (command kind : Command) (t parts : Touched) → command ≡ kind → t ≡ parts → AreTouched kind parts
    → AreTouched command t
touched_at command kind t parts is are touched =
    subst (λ k. AreTouched k t) (sym is) (subst (λ u. AreTouched kind u) (sym are) touched)

-- facts that agree on the sets agree for the command
pub agrees_from_touched : (a b : Facts) (command : Command) (t : Touched)
    → IsFromIterResult text_cmp (accounts_in command) t.accounts → IsFromIterResult text_cmp (declared_in command) t.declared
    → IsFromIterResult pair_cmp (pairs_in command) t.pairs → IsFromIterResult text_cmp (plain_in command) t.plain
    → AgreesOn a b t.accounts.keys t.declared.keys t.pairs.keys t.plain.keys → Agrees a b command
agrees_from_touched a b command t accounts declared pairs plain agrees = record {
  entries = agrees.entries;
  text = agrees.text;
  standing = of_items text_cmp nat_list_cmp_total exact_bytes _ (accounts_in command) t.accounts accounts agrees.standing;
  is_declared = of_items text_cmp nat_list_cmp_total exact_bytes _ (declared_in command) t.declared declared agrees.is_declared;
  latest_at_cost = of_items pair_cmp pairs_total exact_pairs _ (pairs_in command) t.pairs pairs agrees.latest_at_cost;
  held = of_items pair_cmp pairs_total exact_pairs _ (pairs_in command) t.pairs pairs agrees.held;
  plain_units = of_items text_cmp nat_list_cmp_total exact_bytes _ (plain_in command) t.plain plain agrees.plain_units;
}
