-- Rows in a strict order of their keys: what is looked up in them.
use Rattle.std.specs.Prelude.{◌≡◌, ◌⊎◌, Bool, true, false, cond, List, [], ◌∷◌, map, Option, Some, None}
use Rattle.std.specs.Cmp.{Equal-is, IsTotalOrder}
use Rattle.std.specs.List.Sorted.{IsStrictlySortedBy}
use Rattle.std.specs.Map.{lookup}
use Rattle.std.specs.Ordering.{is_eq, ordering_reverse}
use Rattle.std.specs.declared.cmp.Ordering.{Ordering}
use Rattle.std.specs.declared.cmp.Ordering.TheVariants.{Less}
use Rattle.std.proofs.Common.{refl, sym, ap, subst, ◌∙◌, inl, inr}
use Rattle.std.proofs.lemmas.Cmp.{tied_itself}
use Rattle.std.proofs.lemmas.Map.Lookups.{CmpEqualImpliesEq}
use Rattle.sqlite.specs.Tree.{IsAscending}
use Rattle.sqlite_keyed.proofs.ListLemmas.{all_map, map-map, map_back}
use Rattle.sqlite_rules.specs.Lists.{Has}
use Rattle.sqlite_rules.proofs.ListLemmas.{all_has}
use Rattle.lot_base.proofs.MapLemmas.{one_map}

module _ {K V X : Type 0} (cmp : K → K → Ordering) (total : IsTotalOrder cmp) (exact : CmpEqualImpliesEq cmp) (key : X → K) (value : X → V) where
  abbrev entry : X → K × V
  entry x = (key x, value x)

  abbrev pub looked_up : K → List X → Option V
  looked_up k xs = lookup (λ other. is_eq (cmp k other)) (map entry xs)

  abbrev pub IsUp : List X → Type 0
  IsUp = IsAscending (λ a b. cmp (key a) (key b) ≡ Less)

  pub sorted_keys : (xs : List X) → IsUp xs → IsStrictlySortedBy cmp (map key xs)
  unfolding IsStrictlySortedBy
  sorted_keys [] up = tt
  sorted_keys (x ∷ xs) up = (all_map (λ k. cmp (key x) k ≡ Less) key xs up.0, sorted_keys xs up.1)

  -- a row is found under its key
  found : (xs : List X) (x : X) → IsUp xs → Has xs x → looked_up (key x) xs ≡ Some (value x)
  found [] x up has = absurd has
  found (y ∷ xs) x up (inl same) =
      ap (λ b. cond b (Some (value y)) (looked_up (key x) xs))
      (ap (λ z. is_eq (cmp (key x) (key z))) (sym same) ∙ ap is_eq (tied_itself total (key x)))
      ∙ ap (λ z. Some (value z)) (sym same)
  found (y ∷ xs) x up (inr later) =
      ap (λ o. cond (is_eq o) (Some (value y)) (looked_up (key x) xs))
      (total.antisymm (key x) (key y) ∙ ap ordering_reverse (all_has (λ z. cmp (key y) (key z) ≡ Less) xs x up.0 later))
      ∙ found xs x up.1 later

  -- what is found is that of a row with the key
  there : (xs : List X) (k : K) (v : V) → looked_up k xs ≡ Some v → (x : X) × Has xs x × (key x ≡ k) × (value x ≡ v)
  there [] k v e = cc
  there (y ∷ xs) k v e = by (is_eq (cmp k (key y))) refl e (there xs k v)
    where
      by : (b : Bool) → is_eq (cmp k (key y)) ≡ b → cond b (Some (value y)) (looked_up k xs) ≡ Some v
          → (looked_up k xs ≡ Some v → (x : X) × Has xs x × (key x ≡ k) × (value x ≡ v))
          → (x : X) × Has (y ∷ xs) x × (key x ≡ k) × (value x ≡ v)
      by true tie is later = (y, inl refl, sym (exact k (key y) ((Equal-is (cmp k (key y))).0 tie)), cc)
      by false apart is later = let more = later is in (more.0, inr more.1, more.2, more.3)

  -- What is so of each row under its key, and of no value under a key that no row has, is so of what is looked up.
  pub looked_as : (Says : K → Option V → Type 0) (xs : List X) → IsUp xs → ((x : X) → Has xs x → Says (key x) (Some (value x)))
      → ((k : K) → ((x : X) × Has xs x × (key x ≡ k)) ⊎ Says k None) → (k : K) → Says k (looked_up k xs)
  looked_as Says xs up right all k =
      elim (all k) [
        | inl row ↦
            subst (λ z. Says z (looked_up z xs)) row.2
            (subst (Says (key row.0)) (sym (found xs row.0 up row.1)) (right row.0 row.1))
        | inr none ↦ by (looked_up k xs) refl none
      ]
    where
      by : (o : Option V) → looked_up k xs ≡ o → Says k None → Says k o
      by None e none = none
      by (Some v) e none =
          let row = there xs k v e in
          subst (λ z. Says z (Some v)) row.2 (subst (λ w. Says (key row.0) (Some w)) row.3 (right row.0 row.1))

  -- at most one list of rows has these keys and values
  pub one_list : (decode : K × V → X) → ((x : X) → decode (entry x) ≡ x) → (xs ys : List X) → IsStrictlySortedBy cmp (map key xs) → IsStrictlySortedBy cmp (map key ys)
      → ((k : K) → looked_up k xs ≡ looked_up k ys) → xs ≡ ys
  one_list decode back xs ys up other same =
      sym (map_back entry decode back xs)
      ∙ ap (map decode)
      (one_map cmp total exact (map entry xs) (map entry ys)
      (subst (IsStrictlySortedBy cmp) (sym (map-map (λ (e : K × V). e.0) entry xs)) up)
      (subst (IsStrictlySortedBy cmp) (sym (map-map (λ (e : K × V). e.0) entry ys)) other) same)
      ∙ map_back entry decode back ys
