-- Sums over the parts of a list, and over a list with one more.
use Rattle.std.specs.Prelude.{◌≡◌, ◌&&◌, ◌||◌, ℤ, ◌+ℤ◌, Bool, true, false, cond, List, [], ◌∷◌, ◌++◌, filter, map}
use Rattle.std.specs.List.{AllByRecursion}
use Rattle.std.proofs.Common.{refl, sym, ap, append-nil, ◌∙◌}
use Rattle.std.proofs.Math.IntN.{+ℤ_assoc, +ℤ_comm, +ℤ_idl, +ℤ_idr}
use Rattle.std.proofs.lemmas.Bool.{true≢false}
use Rattle.std.proofs.lemmas.List.Elements.{filter-append}
use Rattle.lot_num.specs.Sum.{sum_of}

pub sum_push : {X : Type 0} (number : X → ℤ) (xs : List X) (x : X) → sum_of (map number (xs ++ x ∷ [])) ≡ sum_of (map number xs) +ℤ number x
sum_push number [] x = +ℤ_idr (number x) ∙ sym (+ℤ_idl (number x))
sum_push number (y ∷ xs) x =
    ap (λ z. number y +ℤ z) (sum_push number xs x) ∙ sym (+ℤ_assoc (number y) (sum_of (map number xs)) (number x))

-- one of two tests passes what a third one does, and never both
abbrev pub Parts : Bool → Bool → Bool → Type 0
Parts whole first second = (whole ≡ (first || second)) × ((first && second) ≡ false)

pub and_parts : (a whole first second : Bool) → Parts whole first second → Parts (a && whole) (a && first) (a && second)
and_parts true whole first second parts = parts
and_parts false whole first second parts = (refl, refl)

pub sum_split : {X : Type 0} (number : X → ℤ) (p q r : X → Bool) → ((x : X) → Parts (p x) (q x) (r x)) → (xs : List X)
    → sum_of (map number (filter p xs)) ≡ sum_of (map number (filter q xs)) +ℤ sum_of (map number (filter r xs))
sum_split number p q r parts [] = refl
sum_split {X} number p q r parts (x ∷ xs) = by (p x) (q x) (r x) (parts x) (sum_split number p q r parts xs)
  where
    sum : List X → ℤ
    sum ys = sum_of (map number ys)

    by : (a b c : Bool) → Parts a b c → sum (filter p xs) ≡ sum (filter q xs) +ℤ sum (filter r xs)
        → sum (cond a (x ∷ filter p xs) (filter p xs))
        ≡ sum (cond b (x ∷ filter q xs) (filter q xs)) +ℤ sum (cond c (x ∷ filter r xs) (filter r xs))
    by true true true own is = absurd (true≢false own.1)
    by true true false own is =
        ap (λ z. number x +ℤ z) is ∙ sym (+ℤ_assoc (number x) (sum (filter q xs)) (sum (filter r xs)))
    by true false true own is =
        ap (λ z. number x +ℤ z) is
        ∙ sym (+ℤ_assoc (number x) (sum (filter q xs)) (sum (filter r xs)))
        ∙ ap (λ z. z +ℤ sum (filter r xs)) (+ℤ_comm (number x) (sum (filter q xs)))
        ∙ +ℤ_assoc (sum (filter q xs)) (number x) (sum (filter r xs))
    by true false false own is = absurd (true≢false own.0)
    by false true c own is = absurd (true≢false (sym own.0))
    by false false true own is = absurd (true≢false (sym own.0))
    by false false false own is = is

pub filter_same : {X : Type 0} (p q : X → Bool) (xs : List X) → AllByRecursion (λ x. p x ≡ q x) xs → filter p xs ≡ filter q xs
filter_same p q [] same = refl
filter_same {X} p q (x ∷ xs) same =
    (λ i. cond (same.0 i) (x ∷ filter_same p q xs same.1 i) (filter_same p q xs same.1 i))

pub all_of_each : {X : Type 0} {P : X → Type 0} (each : (x : X) → P x) (xs : List X) → AllByRecursion P xs
all_of_each each [] = tt
all_of_each each (x ∷ xs) = (each x, all_of_each each xs)

pub all_weaker : {X : Type 0} {P Q : X → Type 0} → ((x : X) → P x → Q x) → (xs : List X) → AllByRecursion P xs → AllByRecursion Q xs
all_weaker weaker [] all = tt
all_weaker weaker (x ∷ xs) all = (weaker x all.0, all_weaker weaker xs all.1)

pub filter_push : {X : Type 0} (p : X → Bool) (xs : List X) (x : X) → filter p (xs ++ x ∷ []) ≡ cond (p x) (filter p xs ++ x ∷ []) (filter p xs)
filter_push {X} p xs x = filter-append p xs (x ∷ []) ∙ by (p x)
  where
    by : (b : Bool) → filter p xs ++ cond b (x ∷ []) [] ≡ cond b (filter p xs ++ x ∷ []) (filter p xs)
    by true = refl
    by false = append-nil (filter p xs)
