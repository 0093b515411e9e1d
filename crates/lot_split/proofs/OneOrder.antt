-- Lists with the same elements that rise strictly are one list.
use Rattle.std.proofs.Common.{◌≡◌, ◌∙◌, zero, suc, ◌⊎◌, List, [], ◌∷◌, inl, inr, refl, sym, ap, arith}
use Rattle.std.specs.declared.cmp.Ordering.{Ordering}
use Rattle.std.specs.declared.cmp.Ordering.TheVariants.{Less, Equal, Greater}
use Rattle.std.specs.Cmp.{IsTotalOrder}
use Rattle.std.specs.List.{Contains}
use Rattle.std.specs.List.Sorted.{IsStrictlySortedBy}
use Rattle.std.specs.Ordering.{ordering_reverse}
use Rattle.std.proofs.lemmas.Cmp.{tied_itself}
use Rattle.std.proofs.lemmas.Map.Keys.{sorted_head, sorted_tail}
use Rattle.lot_booking.proofs.ListLemmas.{at_member}

module _ {K : Type 0} where
  -- what a list contains stands first or behind
  first_or_later : (x z : K) (xs : List K) → Contains (x ∷ xs) z → (x ≡ z) ⊎ Contains xs z
  first_or_later x z xs (zero, within, is) = inl is
  first_or_later x z xs (suc k, within, is) = inr (k, omega arith, is)

  first_in : (x : K) (xs : List K) → Contains (x ∷ xs) x
  first_in x xs = (0, omega arith, refl)

  later_in : (x z : K) (xs : List K) → Contains xs z → Contains (x ∷ xs) z
  later_in x z xs (k, within, is) = (suc k, omega arith, is)

  none_in : {P : Type 0} (z : K) → Contains [] z → P
  none_in z (k, within, is) = absurd (omega arith)

  module _ {R : K → K → Ordering} (total : IsTotalOrder R) where
    below : (x z : K) (xs : List K) → IsStrictlySortedBy R (x ∷ xs) → Contains xs z → R x z ≡ Less
    below x z xs sorted within = at_member (λ y. R x y ≡ Less) xs z (sorted_head R x xs sorted) within

    one_first : (x y : K) (xs ys : List K) → IsStrictlySortedBy R (x ∷ xs) → IsStrictlySortedBy R (y ∷ ys)
        → Contains (y ∷ ys) x → Contains (x ∷ xs) y → x ≡ y
    one_first x y xs ys up other there back =
        elim (first_or_later y x ys there) [
          | inl same ↦ sym same
          | inr later ↦ elim (first_or_later x y xs back) [
            | inl same ↦ same
            | inr too ↦
                let turned : Less ≡ Greater = sym (below x y xs up too) ∙ total.antisymm x y ∙ ap ordering_reverse (below y x ys other later) in
                cc
          ]
        ]

    rest_in : (x y : K) (xs ys : List K) → x ≡ y → IsStrictlySortedBy R (x ∷ xs) → ((z : K) → Contains (x ∷ xs) z → Contains (y ∷ ys) z)
        → (z : K) → Contains xs z → Contains ys z
    rest_in x y xs ys same up there z later =
        elim (first_or_later y z ys (there z (later_in x z xs later))) [
          | inl is ↦
              let tied : Less ≡ Equal = sym (below x z xs up later) ∙ ap (R x) (sym (same ∙ is)) ∙ tied_itself total x in
              cc
          | inr too ↦ too
        ]

    pub one_list : (xs ys : List K) → IsStrictlySortedBy R xs → IsStrictlySortedBy R ys
        → ((z : K) → Contains xs z → Contains ys z) → ((z : K) → Contains ys z → Contains xs z) → xs ≡ ys
    one_list [] [] up other there back = refl
    one_list [] (y ∷ ys) up other there back = none_in y (back y (first_in y ys))
    one_list (x ∷ xs) [] up other there back = none_in x (there x (first_in x xs))
    one_list (x ∷ xs) (y ∷ ys) up other there back =
        let same : x ≡ y = one_first x y xs ys up other (there x (first_in x xs)) (back y (first_in y ys)) in
        let rest : xs ≡ ys = one_list xs ys (sorted_tail R x xs up) (sorted_tail R y ys other)
        (rest_in x y xs ys same up there) (rest_in y x ys xs (sym same) other back) in
        cc
