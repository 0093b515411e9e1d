-- What is found under a name, in a list of names with something beside each.
use Rattle.std.specs.Prelude.{◌≡◌, ℕ, Bool, true, false, cond, List, [], ◌∷◌, ◌++◌, Option, None, Some}
use Rattle.std.specs.Cmp.{Equal-is}
use Rattle.std.specs.List.{AllByRecursion}
use Rattle.std.specs.List.Sorted.{IsStrictlySortedBy}
use Rattle.std.specs.Map.{keys_of, lookup}
use Rattle.std.specs.Ordering.{is_eq, ordering_reverse}
use Rattle.std.specs.declared.cmp.Ordering.TheVariants.{Less}
use Rattle.std.proofs.Common.{refl, sym, ap, ◌∙◌}
use Rattle.std.proofs.lemmas.Cmp.{nat_list_cmp_total, tied_itself}
use Rattle.std.proofs.lemmas.Map.Keys.{sorted_head, sorted_tail}
use Rattle.std.proofs.lemmas.Map.Lookups.{exact_bytes}
use Rattle.lot_base.specs.Text.{text_cmp}

abbrev pub is_named : List ℕ → List ℕ → Bool
is_named name other = is_eq (text_cmp name other)

pub named_is : (a b : List ℕ) → is_named a b ≡ true → a ≡ b
named_is a b e = exact_bytes a b ((Equal-is (text_cmp a b)).0 e)

pub own : (a : List ℕ) → is_named a a ≡ true
own a = ap is_eq (tied_itself nat_list_cmp_total a)

module _ {X : Type 0} where
  abbrev pub find : List (List ℕ × X) → List ℕ → Option X
  find es name = lookup (λ other. is_eq (text_cmp name other)) es

  -- one of the keys behind others
  key_among : (P : List ℕ → Type 0) (done rest : List (List ℕ × X)) (k : List ℕ) (x : X) → AllByRecursion P (keys_of (done ++ (k, x) ∷ rest)) → P k
  key_among P [] rest k x all = all.0
  key_among P (d ∷ done) rest k x all = key_among P done rest k x all.1

  -- a name doesn't stand before itself
  pub before_none : (done rest : List (List ℕ × X)) (k : List ℕ) (x : X) → IsStrictlySortedBy text_cmp (keys_of (done ++ (k, x) ∷ rest))
      → find done k ≡ None
  before_none [] rest k x sorted = refl
  before_none (d ∷ done) rest k x sorted =
      let below = key_among (λ y. text_cmp d.0 y ≡ Less) done rest k x (sorted_head text_cmp d.0 (keys_of (done ++ (k, x) ∷ rest)) sorted) in
      ap (λ o. cond (is_eq o) (Some d.1) (find done k)) (nat_list_cmp_total.antisymm k d.0 ∙ ap ordering_reverse below)
      ∙ before_none done rest k x (sorted_tail text_cmp d.0 (keys_of (done ++ (k, x) ∷ rest)) sorted)

  -- what stands behind others under another name
  pub found_at : (done rest : List (List ℕ × X)) (k : List ℕ) (x : X) → find done k ≡ None → find (done ++ (k, x) ∷ rest) k ≡ Some x
  found_at [] rest k x none = ap (λ b. cond b (Some x) (find rest k)) (own k)
  found_at (d ∷ done) rest k x none = by (is_named k d.0) refl (found_at done rest k x)
    where
      by : (b : Bool) → is_named k d.0 ≡ b → (find done k ≡ None → find (done ++ (k, x) ∷ rest) k ≡ Some x)
          → cond (is_named k d.0) (Some d.1) (find (done ++ (k, x) ∷ rest) k) ≡ Some x
      by true here later =
          let some : Some d.1 ≡ None = ap (λ c. cond c (Some d.1) (find done k)) (sym here) ∙ none in
          cc some
      by false here later =
          ap (λ c. cond c (Some d.1) (find (done ++ (k, x) ∷ rest) k)) here
          ∙ later (ap (λ c. cond c (Some d.1) (find done k)) (sym here) ∙ none)
