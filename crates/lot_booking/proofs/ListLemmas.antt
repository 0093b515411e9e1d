-- What holds of each element of a list, sums that are compared term by term, and mapped lists.
use Rattle.std.specs.Prelude.{◌≡◌, ℕ, ◌+◌, ◌≤◌, Bool, true, false, cond, List, [], ◌∷◌, filter, map, sum_by, IsPermutation}
use Rattle.std.specs.List.{AllByRecursion, Contains}
use Rattle.std.proofs.Common.{arith, refl, sym, ap, ◌∙◌}
use Rattle.std.proofs.lemmas.List.Elements.{All-contains, All-contains_itself, All-filter, All-from_recursion, All-weaker, recursion_from_All}
use Rattle.std.proofs.lemmas.List.Sorted.{All-permutation}
use Rattle.std.proofs.lemmas.List.Sums.{sum_by-cons}

-- ---- each element

pub all_both : {X : Type 0} (P Q R : X → Type 0) → ((x : X) → P x → Q x → R x) → (xs : List X) → AllByRecursion P xs → AllByRecursion Q xs
    → AllByRecursion R xs
all_both P Q R f [] p q = tt
all_both P Q R f (x ∷ xs) p q = (f x p.0 q.0, all_both P Q R f xs p.1 q.1)

pub all_permuted : {X : Type 0} (P : X → Type 0) (xs ys : List X) → IsPermutation xs ys → AllByRecursion P xs → AllByRecursion P ys
all_permuted P xs ys moved all = recursion_from_All P ys (All-permutation P xs ys moved (All-from_recursion P xs all))

-- what holds of each element, at one of them
pub at_member : {X : Type 0} (P : X → Type 0) (xs : List X) (x : X) → AllByRecursion P xs → Contains xs x → P x
at_member P xs x all member = All-contains P xs x (All-from_recursion P xs all) member

pub each_member : {X : Type 0} (P : X → Type 0) (xs : List X) → ((x : X) → Contains xs x → P x) → AllByRecursion P xs
each_member P xs h = recursion_from_All P xs (All-weaker (Contains xs) P h xs (All-contains_itself xs))

-- ---- sums

module _ {X : Type 0} (f g : X → ℕ) where
  pub smaller_terms : (xs : List X) → AllByRecursion (λ x. f x ≤ g x) xs → sum_by f xs ≤ sum_by g xs
  smaller_terms [] all = omega arith
  smaller_terms (x ∷ xs) all = omega (arith, sum_by-cons f x xs, sum_by-cons g x xs, all.0, smaller_terms xs all.1)

  -- terms that are no larger, and whose sum is no smaller, are the same
  pub same_terms : (xs : List X) → AllByRecursion (λ x. f x ≤ g x) xs → sum_by f xs ≡ sum_by g xs → AllByRecursion (λ x. f x ≡ g x) xs
  same_terms [] all same = tt
  same_terms (x ∷ xs) all same =
      let rest = smaller_terms xs all.1 in
      let first : f x ≡ g x = omega (arith, sum_by-cons f x xs, sum_by-cons g x xs, all.0, rest, same) in
      (first, same_terms xs all.1 (omega (arith, sum_by-cons f x xs, sum_by-cons g x xs, all.0, rest, same)))

-- ---- mapped lists

module _ {X Y : Type 0} (f : X → Y) where
  pub all_mapped : (P : Y → Type 0) (xs : List X) → AllByRecursion (λ x. P (f x)) xs → AllByRecursion P (map f xs)
  all_mapped P [] all = tt
  all_mapped P (x ∷ xs) all = (all.0, all_mapped P xs all.1)

  -- what passes a test of the mapped elements
  pub map-filter : (test : Y → Bool) (xs : List X) → map f (filter (λ x. test (f x)) xs) ≡ filter test (map f xs)
  map-filter test [] = refl
  map-filter test (x ∷ xs) =
      let kept = filter (λ x. test (f x)) xs in
      elim (test (f x)) as (λ b. map f (cond b (x ∷ kept) kept) ≡ cond b (f x ∷ filter test (map f xs)) (filter test (map f xs))) [
        | true ↦ ap (λ ys. f x ∷ ys) (map-filter test xs)
        | false ↦ map-filter test xs
      ]

  pub sum_by-map : (g : Y → ℕ) (xs : List X) → sum_by g (map f xs) ≡ sum_by (λ x. g (f x)) xs
  sum_by-map g [] = refl
  sum_by-map g (x ∷ xs) =
      sum_by-cons g (f x) (map f xs) ∙ ap (λ n. g (f x) + n) (sum_by-map g xs) ∙ sym (sum_by-cons (λ x. g (f x)) x xs)

pub all_filtered : {X : Type 0} (P : X → Type 0) (test : X → Bool) (xs : List X) → AllByRecursion P xs → AllByRecursion P (filter test xs)
all_filtered P test xs all = recursion_from_All P (filter test xs) (All-filter test P xs (All-from_recursion P xs all))
