-- Entries in the order of their keys, one of which is set.
use Rattle.std.specs.Prelude.{◌≡◌, Bool, true, false, cond, List, [], ◌∷◌, map, Option, Some}
use Rattle.std.specs.BTreeMap.{insert_entry}
use Rattle.std.specs.Cmp.{IsTotalOrder}
use Rattle.std.specs.List.{AllByRecursion}
use Rattle.std.specs.List.Sorted.{IsStrictlySortedBy}
use Rattle.std.specs.Map.{keys_of, lookup}
use Rattle.std.specs.Ordering.{is_eq, match_ordering, ordering_reverse}
use Rattle.std.specs.declared.cmp.Ordering.{Ordering}
use Rattle.std.specs.declared.cmp.Ordering.TheVariants.{Less, Equal, Greater}
use Rattle.std.proofs.Common.{refl, sym, ap, subst, ◌∙◌}
use Rattle.std.proofs.lemmas.Bool.{true≢false}
use Rattle.std.proofs.lemmas.Cmp.{alike_right}
use Rattle.std.proofs.lemmas.Map.Keys.{sorted_head, sorted_tail}

module _ {K X : Type 0} {R : K → K → Ordering} (total : IsTotalOrder R) (k : K) (v : X) where
  -- where a key goes behind the first entry
  abbrev placed : Ordering → K × X → List (K × X) → List (K × X)
  placed r e es = match_ordering r ((k, v) ∷ e ∷ es) ((e.0, v) ∷ es) (e ∷ insert_entry R es k v)

  all_below : (first : K) (ks : List K) → R k first ≡ Less → AllByRecursion (λ y. R first y ≡ Less) ks → AllByRecursion (λ y. R k y ≡ Less) ks
  all_below first [] below all = tt
  all_below first (y ∷ ks) below all = (total.trans k first y below all.0, all_below first ks below all.1)

  all_with : (P : K → Type 0) (es : List (K × X)) → P k → AllByRecursion P (keys_of es) → AllByRecursion P (keys_of (insert_entry R es k v))
  all_with P [] own all = (own, tt)
  all_with P (e ∷ es) own all =
      elim (R k e.0) as (λ r. AllByRecursion P (keys_of (placed r e es))) [
        | Less ↦ (own, all)
        | Equal ↦ all
        | Greater ↦ (all.0, all_with P es own all.1)
      ]

  behind : (first : K) (ks : List K) → AllByRecursion (λ y. R first y ≡ Less) ks → IsStrictlySortedBy R ks → IsStrictlySortedBy R (first ∷ ks)
  unfolding IsStrictlySortedBy
  behind first ks all sorted = (all, sorted)

  alone : IsStrictlySortedBy R (k ∷ [])
  unfolding IsStrictlySortedBy
  alone = (tt, tt)

  pub sorted_with : (es : List (K × X)) → IsStrictlySortedBy R (keys_of es) → IsStrictlySortedBy R (keys_of (insert_entry R es k v))
  sorted_with [] sorted = alone
  sorted_with (e ∷ es) sorted =
      let head = sorted_head R e.0 (keys_of es) sorted in
      let tail = sorted_tail R e.0 (keys_of es) sorted in
      elim (R k e.0) as (λ r. R k e.0 ≡ r → IsStrictlySortedBy R (keys_of (placed r e es))) [
        | Less ↦ λ r. behind k (e.0 ∷ keys_of es) (r, all_below e.0 (keys_of es) r head) sorted
        | Equal ↦ λ r. sorted
        | Greater ↦ λ r. behind e.0 (keys_of (insert_entry R es k v))
            (all_with (λ y. R e.0 y ≡ Less) es (total.antisymm e.0 k ∙ ap ordering_reverse r) head) (sorted_with es tail)
      ] refl

  twice : (b : Bool) (x y z : Option X) → cond b x z ≡ cond b x (cond b y z)
  twice true x y z = refl
  twice false x y z = refl

  apart : (a b : Bool) (x y z : Option X) → (a ≡ true → b ≡ true → ⊥) → cond a x (cond b y z) ≡ cond b y (cond a x z)
  apart true true x y z never = absurd (never refl refl)
  apart true false x y z never = refl
  apart false b x y z never = refl

  tied : (r : Ordering) → is_eq r ≡ true → r ≡ Equal
  tied Less e = absurd (true≢false (sym e))
  tied Equal e = refl
  tied Greater e = absurd (true≢false (sym e))

  pub lookup_with : (q : K) (es : List (K × X))
      → lookup (λ other. is_eq (R q other)) (insert_entry R es k v) ≡ cond (is_eq (R q k)) (Some v) (lookup (λ other. is_eq (R q other)) es)
  lookup_with q [] = refl
  lookup_with q (e ∷ es) =
      let found = lookup (λ other. is_eq (R q other)) es in
      elim (R k e.0) as (λ r. R k e.0 ≡ r
      → lookup (λ other. is_eq (R q other)) (placed r e es) ≡ cond (is_eq (R q k)) (Some v) (cond (is_eq (R q e.0)) (Some e.1) found)) [
        | Less ↦ λ r. refl
        | Equal ↦ λ r. twice (is_eq (R q e.0)) (Some v) (Some e.1) found
            ∙ ap (λ o. cond (is_eq o) (Some v) (cond (is_eq (R q e.0)) (Some e.1) found)) (sym (alike_right total k e.0 q r))
        | Greater ↦ λ r. ap (cond (is_eq (R q e.0)) (Some e.1)) (lookup_with q es)
            ∙ apart (is_eq (R q e.0)) (is_eq (R q k)) (Some e.1) (Some v) found
            (λ first own. true≢false (sym first ∙ ap is_eq (total.congr q k e.0 (tied (R q k) own)) ∙ ap is_eq r))
      ] refl

-- the same, of entries whose keys are seen otherwise
module _ {K L X : Type 0} (see : K → L) where
  abbrev entry_seen : K × X → L × X
  entry_seen e = (see e.0, e.1)

  pub insert_seen : (R : L → L → Ordering) (es : List (K × X)) (k : K) (v : X)
      → map entry_seen (insert_entry (λ a b. R (see a) (see b)) es k v) ≡ insert_entry R (map entry_seen es) (see k) v
  insert_seen R [] k v = refl
  insert_seen R (e ∷ es) k v =
      let rest : List (K × X) = insert_entry (λ a b. R (see a) (see b)) es k v in
      elim (R (see k) (see e.0)) as (λ r.
      map entry_seen (match_ordering {X = List (K × X)} r ((k, v) ∷ e ∷ es) ((e.0, v) ∷ es) (e ∷ rest))
      ≡ match_ordering {X = List (L × X)} r ((see k, v) ∷ entry_seen e ∷ map entry_seen es) ((see e.0, v) ∷ map entry_seen es)
      (entry_seen e ∷ insert_entry R (map entry_seen es) (see k) v)) [
        | Less ↦ refl
        | Equal ↦ refl
        | Greater ↦ ap (λ (l : List (L × X)). entry_seen e ∷ l) (insert_seen R es k v)
      ]

  pub lookup_seen : (test : L → Bool) (es : List (K × X)) → lookup (λ k. test (see k)) es ≡ lookup test (map entry_seen es)
  lookup_seen test [] = refl
  lookup_seen test (e ∷ es) = ap (cond (test (see e.0)) (Some e.1)) (lookup_seen test es)
