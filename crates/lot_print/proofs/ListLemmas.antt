-- What holds of each item of a list, or of two lists place by place, holds of lists put together.
use Rattle.std.proofs.Common.{◌≡◌, Bool, true, List, [], ◌∷◌, ◌++◌, map, ◌∙◌, refl}
use Rattle.std.specs.List.{AllByRecursion, AllZip, list_all}
use Rattle.std.proofs.lemmas.Bool.{and_from, and_parts}
use Rattle.std.proofs.lemmas.List.Folds.{list_all-append}

-- ---- Tests.

pub first_passes : {X : Type 0} (p : X → Bool) (x : X) (xs : List X) → list_all p (x ∷ xs) ≡ true
    → (p x ≡ true) × (list_all p xs ≡ true)
first_passes p x xs all = and_parts (p x) (list_all p xs) all

pub all_pass : {X : Type 0} (p q : X → Bool) → ((x : X) → p x ≡ true → q x ≡ true) → (xs : List X) → list_all p xs ≡ true
    → list_all q xs ≡ true
all_pass p q each [] all = refl
all_pass p q each (x ∷ xs) all =
    let parts = first_passes p x xs all in
    and_from _ _ (each x parts.0) (all_pass p q each xs parts.1)

pub both_pass : {X : Type 0} (p : X → Bool) (xs ys : List X) → list_all p xs ≡ true → list_all p ys ≡ true
    → list_all p (xs ++ ys) ≡ true
both_pass p xs ys all more = list_all-append p xs ys ∙ and_from _ _ all more

-- ---- Facts.

pub both_hold : {X : Type 0} (P : X → Type 0) (xs ys : List X) → AllByRecursion P xs → AllByRecursion P ys
    → AllByRecursion P (xs ++ ys)
both_hold P [] ys all more = more
both_hold P (x ∷ xs) ys (first, all) more = (first, both_hold P xs ys all more)

-- of what is made of each item
pub all_made : {X Y : Type 0} (P : X → Type 0) (Q : Y → Type 0) (f : X → Y) → ((x : X) → P x → Q (f x)) → (xs : List X)
    → AllByRecursion P xs → AllByRecursion Q (map f xs)
all_made P Q f each [] all = tt
all_made P Q f each (x ∷ xs) (first, all) = (each x first, all_made P Q f each xs all)

-- ---- Facts of two lists.

pub both_zip : {X Y : Type 0} (R : X → Y → Type 0) (xs ys : List X) (vs ws : List Y) → AllZip R xs vs → AllZip R ys ws
    → AllZip R (xs ++ ys) (vs ++ ws)
both_zip R [] ys [] ws all more = more
both_zip R [] ys (v ∷ vs) ws all more = absurd all
both_zip R (x ∷ xs) ys [] ws all more = absurd all
both_zip R (x ∷ xs) ys (v ∷ vs) ws (first, all) more = (first, both_zip R xs ys vs ws all more)

pub zip_weaker : {X Y : Type 0} (R S : X → Y → Type 0) → ((x : X) (v : Y) → R x v → S x v) → (xs : List X) (vs : List Y)
    → AllZip R xs vs → AllZip S xs vs
zip_weaker R S each [] [] all = tt
zip_weaker R S each [] (v ∷ vs) all = absurd all
zip_weaker R S each (x ∷ xs) [] all = absurd all
zip_weaker R S each (x ∷ xs) (v ∷ vs) (first, all) = (each x v first, zip_weaker R S each xs vs all)

-- a list beside itself
pub zip_itself : {X : Type 0} (P : X → Type 0) (R : X → X → Type 0) → ((x : X) → P x → R x x) → (xs : List X)
    → AllByRecursion P xs
    → AllZip R xs xs
zip_itself P R each [] all = tt
zip_itself P R each (x ∷ xs) (first, all) = (each x first, zip_itself P R each xs all)
