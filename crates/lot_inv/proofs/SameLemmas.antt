-- What is gathered from entries is the same, in some order, where they have the same at each key.
use Rattle.std.specs.Prelude.{◌≡◌, true, false, cond, Option, None, Some, List, [], ◌∷◌, ◌++◌, IsPermutation}
use Rattle.std.specs.declared.cmp.Ordering.{Ordering}
use Rattle.std.specs.BTreeMap.{is_at}
use Rattle.std.specs.Cmp.{IsTotalOrder, eq_by_cmp_equiv, tied_itself}
use Rattle.std.specs.List.{AllByRecursion, IsDistinct}
use Rattle.std.specs.Map.{keys_of, lookup, remove_entry}
use Rattle.std.specs.Ordering.{eq_by_cmp, is_eq}
use Rattle.std.proofs.Common.{append_assoc, refl, sym, ap, subst, ◌∙◌}
use Rattle.std.proofs.lemmas.List.Sorted.{IsPermutation-append_comm, IsPermutation-append_left, IsPermutation-append_right, IsPermutation-refl, IsPermutation-sym, IsPermutation-trans}
use Rattle.std.proofs.lemmas.Map.{lookup-remove_entry}
use Rattle.std.proofs.lemmas.Map.Keys.{IsDistinct-IsPermutation, IsDistinct-head, IsDistinct-tail}
use Rattle.std.proofs.lemmas.Map.Lookups.{CmpEqualImpliesEq}
use Rattle.lot_cost.proofs.OrderLemmas.{is_equal}

-- what each entry gives, one after another
abbrev pub gather : {K X Y : Type 0} → (K × X → List Y) → List (K × X) → List Y
gather f [] = []
gather f (entry ∷ entries) = f entry ++ gather f entries

abbrev key_of : {K X : Type 0} → K × X → List K
key_of entry = entry.0 ∷ []

keys-gather : {K X : Type 0} (entries : List (K × X)) → gather key_of entries ≡ keys_of entries
keys-gather [] = refl
keys-gather (entry ∷ entries) = ap (λ keys. entry.0 ∷ keys) (keys-gather entries)

parts_swapped : {Y : Type 0} (a b c : List Y) → IsPermutation (a ++ (b ++ c)) (b ++ (a ++ c))
parts_swapped a b c =
    subst (λ ys. IsPermutation ys (b ++ (a ++ c))) (append_assoc a b c)
    (subst (IsPermutation ((a ++ b) ++ c)) (append_assoc b a c)
    (IsPermutation-append_left c (a ++ b) (b ++ a) (IsPermutation-append_comm a b)))

module _ {K X : Type 0} (order : K → K → Ordering) (total : IsTotalOrder order) (exact : CmpEqualImpliesEq order) where
  abbrev value_at : K → List (K × X) → Option X
  value_at key entries = lookup (is_at (order key)) entries

  abbrev Distinct : List (K × X) → Type 0
  Distinct entries = IsDistinct (eq_by_cmp order) (keys_of entries)

  abbrev others : K → List (K × X) → List (K × X)
  others key entries = remove_entry (is_at (order key)) entries

  module _ {Y : Type 0} (f : K × X → List Y) where
    taken_out : (key : K) (value : X) (entries : List (K × X)) → value_at key entries ≡ Some value
        → IsPermutation (gather f entries) (f (key, value) ++ gather f (others key entries))
    taken_out key value [] is = cc
    taken_out key value (entry ∷ entries) is =
        let rest = others key entries in
        elim (is_eq (order key entry.0)) as (λ b. is_eq (order key entry.0) ≡ b → cond b (Some entry.1) (value_at key entries) ≡ Some value
        → IsPermutation (gather f (entry ∷ entries)) (f (key, value) ++ gather f (cond b entries (entry ∷ rest)))) [
          | true ↦ λ same found.
              let its_key : entry.0 ≡ key = sym (exact key entry.0 (is_equal (order key entry.0) same)) in
              let its_value : entry.1 ≡ value = cc found in
              subst (λ (first : K × X). IsPermutation (f entry ++ gather f entries) (f first ++ gather f entries)) (λ i. (its_key i, its_value i))
              (IsPermutation-refl (f entry ++ gather f entries))
          | false ↦ λ other found.
              IsPermutation-trans (f entry ++ gather f entries) (f entry ++ (f (key, value) ++ gather f rest)) (f (key, value) ++ (f entry ++ gather f rest))
              (IsPermutation-append_right (f entry) (gather f entries) (f (key, value) ++ gather f rest) (taken_out key value entries found))
              (parts_swapped (f entry) (f (key, value)) (gather f rest))
        ] refl is

  first_found : (entry : K × X) (entries : List (K × X)) → value_at entry.0 (entry ∷ entries) ≡ Some entry.1
  first_found entry entries = ap (λ o. cond (is_eq o) (Some entry.1) (value_at entry.0 entries)) (tied_itself total entry.0)

  none_apart : (key : K) (entries : List (K × X)) → AllByRecursion (λ (other : K). eq_by_cmp order key other ≡ false) (keys_of entries) → value_at key entries ≡ None
  none_apart key [] apart = refl
  none_apart key (entry ∷ entries) apart = ap (λ b. cond b (Some entry.1) (value_at key entries)) apart.0 ∙ none_apart key entries apart.1

  -- what is found behind the first entry is what is found elsewhere than at its key
  behind_first : (entry : K × X) (entries : List (K × X)) → Distinct (entry ∷ entries) → (key : K)
      → value_at key entries ≡ cond (is_eq (order entry.0 key)) None (value_at key (entry ∷ entries))
  behind_first entry entries distinct key =
      let turned : is_eq (order key entry.0) ≡ is_eq (order entry.0 key) = (eq_by_cmp_equiv total).symm key entry.0 in
      elim (is_eq (order key entry.0)) as (λ b. is_eq (order key entry.0) ≡ b → value_at key entries ≡ cond b None (cond b (Some entry.1) (value_at key entries))) [
        | true ↦ λ same.
            ap (λ k. value_at k entries) (exact key entry.0 (is_equal (order key entry.0) same))
            ∙ none_apart entry.0 entries (IsDistinct-head (eq_by_cmp order) entry.0 (keys_of entries) distinct)
        | false ↦ λ other. refl
      ] refl
      ∙ ap (λ b. cond b None (value_at key (entry ∷ entries))) turned

  -- without one of them the others are distinct still
  others_distinct : (key : K) (value : X) (entries : List (K × X)) → value_at key entries ≡ Some value → Distinct entries → Distinct (others key entries)
  others_distinct key value entries found distinct =
      let laws = eq_by_cmp_equiv total in
      let out = subst (λ (keys : List K). IsPermutation keys (key ∷ gather key_of (others key entries))) (keys-gather entries) (taken_out key_of key value entries found) in
      let moved = subst (λ (keys : List K). IsPermutation (keys_of entries) (key ∷ keys)) (keys-gather (others key entries)) out in
      IsDistinct-tail (eq_by_cmp order) key (keys_of (others key entries))
      (IsDistinct-IsPermutation (eq_by_cmp order) laws.symm (keys_of entries) (key ∷ keys_of (others key entries)) moved distinct)

  pub gathered_alike : {Y : Type 0} (f : K × X → List Y) (entries lots : List (K × X)) → Distinct entries → Distinct lots
      → ((key : K) → value_at key entries ≡ value_at key lots) → IsPermutation (gather f entries) (gather f lots)
  gathered_alike f [] [] distinct also alike = IsPermutation-refl []
  gathered_alike f [] (lot ∷ lots) distinct also alike =
      let none : None ≡ Some lot.1 = alike lot.0 ∙ first_found lot lots in
      cc none
  gathered_alike f (entry ∷ entries) lots distinct also alike =
      let rest = others entry.0 lots in
      let found = sym (alike entry.0) ∙ first_found entry entries in
      let laws = eq_by_cmp_equiv total in
      let behind = gathered_alike f entries rest (IsDistinct-tail (eq_by_cmp order) entry.0 (keys_of entries) distinct)
      (others_distinct entry.0 entry.1 lots found also)
      (λ key. behind_first entry entries distinct key
      ∙ ap (cond (is_eq (order entry.0 key)) None) (alike key)
      ∙ sym (lookup-remove_entry laws (is_at (order entry.0)) (laws.congr entry.0) key lots also)) in
      IsPermutation-trans (f entry ++ gather f entries) (f entry ++ gather f rest) (gather f lots)
      (IsPermutation-append_right (f entry) (gather f entries) (gather f rest) behind)
      (IsPermutation-sym (gather f lots) (f entry ++ gather f rest) (taken_out f entry.0 entry.1 lots found))
