-- Entries in the order of their keys, and what is looked up in them.
use Rattle.std.specs.Prelude.{◌≡◌, List, [], ◌∷◌, Bool, true, false, cond, ◌&&◌, T, Option, None, Some}
use Rattle.std.specs.declared.cmp.Ordering.{Ordering}
use Rattle.std.specs.declared.cmp.Ordering.TheVariants.{Less, Equal, Greater}
use Rattle.std.specs.Cmp.{IsTotalOrder}
use Rattle.std.specs.FinMap.Entries.{find, is_sorted, below_all, same_entries}
use Rattle.std.specs.List.{AllByRecursion}
use Rattle.std.specs.List.Sorted.{IsStrictlySortedBy}
use Rattle.std.specs.Map.{keys_of, lookup}
use Rattle.std.specs.Ordering.{is_eq, is_lt}
use Rattle.std.proofs.Common.{refl, sym, ap, subst, ◌∙◌}
use Rattle.std.proofs.lemmas.Map.Lookups.{CmpEqualImpliesEq}

both_hold : (a b : Bool) → T a → T b → T (a && b)
both_hold true b s t = t
both_hold false b s t = absurd s

first_holds : (a b : Bool) → T (a && b) → T a
first_holds true b h = tt
first_holds false b h = h

second_holds : (a b : Bool) → T (a && b) → T b
second_holds true b h = h
second_holds false b h = absurd h

is_less : (o : Ordering) → T (is_lt o) → o ≡ Less
is_less Less h = refl
is_less Equal h = absurd h
is_less Greater h = absurd h

module _ {K X : Type 0} (order : K → K → Ordering) where
  -- what is looked up at a key
  abbrev value_at : K → List (K × X) → Option X
  value_at key entries = lookup (λ other. is_eq (order key other)) entries

  pub found_by_order : (key : K) (entries : List (K × X)) → find order key entries ≡ value_at key entries
  found_by_order key [] = refl
  found_by_order key (entry ∷ entries) = ap (cond (is_eq (order key entry.0)) (Some entry.1)) (found_by_order key entries)

  below_entries : (key : K) (entries : List (K × X)) → AllByRecursion (λ (other : K). order key other ≡ Less) (keys_of entries) → T (below_all order key entries)
  below_entries key [] h = tt
  below_entries key (entry ∷ entries) h = subst (λ o. T (is_lt o && below_all order key entries)) (sym h.0) (below_entries key entries h.1)

  pub in_order : (entries : List (K × X)) → IsStrictlySortedBy order (keys_of entries) → T (is_sorted order entries)
  unfolding IsStrictlySortedBy
  in_order [] h = tt
  in_order (entry ∷ entries) h = both_hold (below_all order entry.0 entries) (is_sorted order entries) (below_entries entry.0 entries h.0) (in_order entries h.1)

  pub one_map : IsTotalOrder order → CmpEqualImpliesEq order → (entries others : List (K × X))
      → IsStrictlySortedBy order (keys_of entries) → IsStrictlySortedBy order (keys_of others)
      → ((key : K) → value_at key entries ≡ value_at key others) → entries ≡ others
  one_map total exact entries others h k alike =
      same_entries order total exact entries others (in_order entries h) (in_order others k)
      (λ key. found_by_order key entries ∙ alike key ∙ sym (found_by_order key others))

  -- nothing is found at a key below all others
  pub none_below : (key : K) (entries : List (K × X)) → AllByRecursion (λ (other : K). order key other ≡ Less) (keys_of entries) → value_at key entries ≡ None
  none_below key [] h = refl
  none_below key (entry ∷ entries) h = ap (λ o. cond (is_eq o) (Some entry.1) (value_at key entries)) h.0 ∙ none_below key entries h.1

  above_key : (key : K) (entries : List (K × X)) → T (below_all order key entries) → AllByRecursion (λ (other : K). order key other ≡ Less) (keys_of entries)
  above_key key [] h = tt
  above_key key (entry ∷ entries) h = (
    is_less (order key entry.0) (first_holds (is_lt (order key entry.0)) (below_all order key entries) h),
    above_key key entries (second_holds (is_lt (order key entry.0)) (below_all order key entries) h),
  )

  pub keys_sorted : (entries : List (K × X)) → T (is_sorted order entries) → IsStrictlySortedBy order (keys_of entries)
  unfolding IsStrictlySortedBy
  keys_sorted [] h = tt
  keys_sorted (entry ∷ entries) h = (
    above_key entry.0 entries (first_holds (below_all order entry.0 entries) (is_sorted order entries) h),
    keys_sorted entries (second_holds (below_all order entry.0 entries) (is_sorted order entries) h),
  )
