-- A list that is cut at the elements that pass a test.
use Rattle.std.proofs.Common.{◌≡◌, ℕ, ◌+◌, ◌-◌, ◌<◌, ◌≤◌, Bool, false, List, [], ◌∷◌, length, take, drop, Option, Some, None, arith}
use Rattle.std.specs.Prelude.{not, cond, nat_lt}
use Rattle.std.specs.List.{slice_split, position_or_len, prefix_len}
use Rattle.std.proofs.lemmas.Bool.{not-true}
use Rattle.std.proofs.lemmas.Bool.Decides.{nat_tests}
use Rattle.std.proofs.lemmas.List.{take_all, length-drop}
use Rattle.std.proofs.lemmas.List.Elements.{All-from_get_or}
use Rattle.std.proofs.lemmas.List.Splits.{slice_split_none, slice_split_first}
use Rattle.std.proofs.lemmas.List.Sums.{prefix_len_passes, prefix_len-le-length}

-- where no element passes, all of the list is one part
pub slice_split-whole : {X : Type 0} (p : X → Bool) (xs : List X) (d : X) → position_or_len p xs ≡ length xs → slice_split p xs ≡ xs ∷ []
slice_split-whole {X} p xs d none =
    slice_split_none p xs
    (All-from_get_or (λ x. p x ≡ false) xs d
    (λ i h. let within : i < prefix_len (λ (x : X). not (p x)) xs = omega arith in
    not-true _ (prefix_len_passes (λ (x : X). not (p x)) xs i d within)))

-- what a search for the first such element returns
abbrev pub first_place : {X : Type 0} → (X → Bool) → List X → Option ℕ
first_place p xs = cond (nat_lt (position_or_len p xs) (length xs)) (Some (position_or_len p xs)) None

place_none : (at end : ℕ) → at ≤ end → None ≡ cond (nat_lt at end) (Some at) None → at ≡ end
place_none at end le e = grind (arith, nat_tests)

place_some : (at end place : ℕ) → Some place ≡ cond (nat_lt at end) (Some at) None → (place ≡ at) × (at < end)
place_some at end place e = grind (arith, nat_tests)

pub slice_split-none : {X : Type 0} (p : X → Bool) (xs : List X) (d : X) → None ≡ first_place p xs → slice_split p xs ≡ xs ∷ []
slice_split-none {X} p xs d e =
    slice_split-whole p xs d (place_none _ (length xs) (prefix_len-le-length (λ (x : X). not (p x)) xs) e)

pub slice_split-some : {X : Type 0} (p : X → Bool) (xs : List X) (d : X) (at : ℕ) → Some at ≡ first_place p xs
    → slice_split p xs ≡ take at xs ∷ slice_split p (take (length xs - (at + 1)) (drop (at + 1) xs))
slice_split-some {X} p xs d at e =
    let found = place_some (position_or_len p xs) (length xs) at e in
    let rest : take (length xs - (at + 1)) (drop (at + 1) xs) ≡ drop (at + 1) xs =
    take_all _ _ (omega (arith, length-drop (at + 1) xs)) in
    rw (rest, found.0) (slice_split_first p xs d found.1)
