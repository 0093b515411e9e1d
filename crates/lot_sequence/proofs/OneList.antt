-- A list that rises strictly is the only one with its elements that does.
use Rattle.std.specs.Prelude.{◌≡◌, zero, suc, ◌⊎◌, List, [], ◌∷◌}
use Rattle.std.specs.declared.cmp.Ordering.{Ordering}
use Rattle.std.specs.declared.cmp.Ordering.TheVariants.{Less, Equal, Greater}
use Rattle.std.specs.Cmp.{IsTotalOrder}
use Rattle.std.specs.List.{AllByRecursion, Contains}
use Rattle.std.specs.List.Sorted.{IsStrictlySortedBy}
use Rattle.std.specs.Ordering.{ordering_reverse}
use Rattle.std.proofs.Common.{arith, ap, inl, inr, refl, sym, subst, ◌∙◌}
use Rattle.std.proofs.lemmas.Cmp.{tied_itself}
use Rattle.std.proofs.lemmas.Map.Keys.{sorted_head, sorted_tail}

module _ {K : Type 0} where
  -- what a list contains stands first or behind
  cases : (x : K) (xs : List K) (z : K) → Contains (x ∷ xs) z → (x ≡ z) ⊎ Contains xs z
  cases x xs z (zero, within, is) = inl is
  cases x xs z (suc k, within, is) = inr (k, omega arith, is)

  first_in : (x : K) (xs : List K) → Contains (x ∷ xs) x
  first_in x xs = (0, omega arith, refl)

  behind_in : (x : K) (xs : List K) (z : K) → Contains xs z → Contains (x ∷ xs) z
  behind_in x xs z (k, within, is) = (suc k, omega arith, is)

  none_in : {P : Type 0} (z : K) → Contains [] z → P
  none_in z (k, within, is) = absurd (omega arith)

  all_in : (P : K → Type 0) (xs : List K) (z : K) → AllByRecursion P xs → Contains xs z → P z
  all_in P [] z all within = none_in z within
  all_in P (x ∷ xs) z all within = elim (cases x xs z within) [ inl is ↦ subst P is all.0 | inr behind ↦ all_in P xs z all.1 behind ]

  module _ {R : K → K → Ordering} (total : IsTotalOrder R) where
    both_less : {P : Type 0} (x y : K) → R x y ≡ Less → R y x ≡ Less → P
    both_less x y one other =
        let turned : Less ≡ Greater = sym one ∙ total.antisymm x y ∙ ap ordering_reverse other in cc

    not_itself : {P : Type 0} (x : K) → R x x ≡ Less → P
    not_itself x less = let tied : Less ≡ Equal = sym less ∙ tied_itself total x in cc

    one_head : (x y : K) (xs ys : List K) → IsStrictlySortedBy R (x ∷ xs) → IsStrictlySortedBy R (y ∷ ys)
        → Contains (y ∷ ys) x → Contains (x ∷ xs) y → x ≡ y
    one_head x y xs ys first second in_second in_first =
        elim (cases y ys x in_second) [
          | inl is ↦ sym is
          | inr behind ↦ elim (cases x xs y in_first) [
            | inl is ↦ is
            | inr after ↦ both_less x y (all_in (λ z. R x z ≡ Less) xs y (sorted_head R x xs first) after) (all_in (λ z. R y z ≡ Less) ys x (sorted_head R y ys second) behind)
          ]
        ]

    tail_in : (x y : K) (xs ys : List K) → x ≡ y → IsStrictlySortedBy R (x ∷ xs) → ((z : K) → Contains (x ∷ xs) z → Contains (y ∷ ys) z)
        → (z : K) → Contains xs z → Contains ys z
    tail_in x y xs ys same sorted within z behind =
        let above = all_in (λ w. R x w ≡ Less) xs z (sorted_head R x xs sorted) behind in
        elim (cases y ys z (within z (behind_in x xs z behind))) [
          | inl is ↦ not_itself z (subst (λ (w : K). R w z ≡ Less) (same ∙ is) above)
          | inr after ↦ after
        ]

    pub one_list : (xs ys : List K) → IsStrictlySortedBy R xs → IsStrictlySortedBy R ys
        → ((z : K) → Contains xs z → Contains ys z) → ((z : K) → Contains ys z → Contains xs z) → xs ≡ ys
    one_list [] [] first second there back = refl
    one_list [] (y ∷ ys) first second there back = none_in y (back y (first_in y ys))
    one_list (x ∷ xs) [] first second there back = none_in x (there x (first_in x xs))
    one_list (x ∷ xs) (y ∷ ys) first second there back =
        let same : x ≡ y = one_head x y xs ys first second (there x (first_in x xs)) (back y (first_in y ys)) in
        let rest : xs ≡ ys = one_list xs ys (sorted_tail R x xs first) (sorted_tail R y ys second)
        (tail_in x y xs ys same first there) (tail_in y x ys xs (sym same) second back) in
        cc
