-- Sums over what passes a test, and sums in a name.
use Rattle.std.specs.Prelude.{◌≡◌, ℕ, Bool, true, false, cond, ◌||◌, List, [], ◌∷◌, ◌++◌, map, filter, ℤ, pos, ◌+ℤ◌}
use Rattle.std.specs.List.{list_any}
use Rattle.std.proofs.Common.{refl, sym, ap, ◌∙◌}
use Rattle.std.proofs.Math.IntN.{+ℤ_assoc, +ℤ_idl, +ℤ_idr}
use Rattle.std.proofs.lemmas.Bool.{or_parts}
use Rattle.lot_num.specs.Sum.{sum_of}
use Rattle.lot_book.specs.Currencies.{sum_in}
use Rattle.lot_base.specs.Text.{same_text}
use Rattle.lot_book.proofs.CaseLemmas.{by_bool}

-- the sum over what passes a test
abbrev pub sum_where : {X : Type 0} → (X → Bool) → (X → ℤ) → List X → ℤ
sum_where p f xs = sum_of (map f (filter p xs))

pub sum_where-cons : {X : Type 0} (p : X → Bool) (f : X → ℤ) (x : X) (xs : List X)
    → sum_where p f (x ∷ xs) ≡ cond (p x) (f x +ℤ sum_where p f xs) (sum_where p f xs)
sum_where-cons p f x xs = by_bool (p x) (λ here. rw here refl) (λ apart. rw apart refl)

pub sum_where_here : {X : Type 0} (p : X → Bool) (f : X → ℤ) (x : X) (xs : List X) → p x ≡ true
    → sum_where p f (x ∷ xs) ≡ f x +ℤ sum_where p f xs
sum_where_here p f x xs e = sum_where-cons p f x xs ∙ ap (λ b. cond b (f x +ℤ sum_where p f xs) (sum_where p f xs)) e

pub sum_where_apart : {X : Type 0} (p : X → Bool) (f : X → ℤ) (x : X) (xs : List X) → p x ≡ false
    → sum_where p f (x ∷ xs) ≡ sum_where p f xs
sum_where_apart p f x xs e = sum_where-cons p f x xs ∙ ap (λ b. cond b (f x +ℤ sum_where p f xs) (sum_where p f xs)) e

pub sum_where-append : {X : Type 0} (p : X → Bool) (f : X → ℤ) (xs ys : List X)
    → sum_where p f (xs ++ ys) ≡ sum_where p f xs +ℤ sum_where p f ys
sum_where-append p f [] ys = sym (+ℤ_idl (sum_where p f ys))
sum_where-append p f (x ∷ xs) ys =
    let rest = sum_where-append p f xs ys in
    by_bool (p x)
    (λ e. sum_where_here p f x (xs ++ ys) e ∙ ap (λ z. f x +ℤ z) rest
    ∙ sym (+ℤ_assoc (f x) (sum_where p f xs) (sum_where p f ys))
    ∙ ap (λ z. z +ℤ sum_where p f ys) (sym (sum_where_here p f x xs e)))
    (λ e. sum_where_apart p f x (xs ++ ys) e ∙ rest ∙ ap (λ z. z +ℤ sum_where p f ys) (sym (sum_where_apart p f x xs e)))

-- one more at the end
pub sum_where-push : {X : Type 0} (p : X → Bool) (f : X → ℤ) (xs : List X) (x : X)
    → sum_where p f (xs ++ x ∷ []) ≡ cond (p x) (sum_where p f xs +ℤ f x) (sum_where p f xs)
sum_where-push p f xs x =
    let sum = sum_where p f xs in
    sum_where-append p f xs (x ∷ [])
    ∙ by_bool (p x)
    (λ e. ap (λ z. sum +ℤ z) (sum_where_here p f x [] e ∙ +ℤ_idr (f x)) ∙ ap (λ b. cond b (sum +ℤ f x) sum) (sym e))
    (λ e. ap (λ z. sum +ℤ z) (sum_where_apart p f x [] e) ∙ +ℤ_idr sum ∙ ap (λ b. cond b (sum +ℤ f x) sum) (sym e))

-- whether one passes once they are mapped
list_any-map : {X Y : Type 0} (p : Y → Bool) (f : X → Y) (xs : List X) → list_any p (map f xs) ≡ list_any (λ x. p (f x)) xs
list_any-map p f [] = refl
list_any-map p f (x ∷ xs) = ap (λ b. p (f x) || b) (list_any-map p f xs)

-- where none passes
pub sum_where-none : {X : Type 0} (p : X → Bool) (f : X → ℤ) (xs : List X) → list_any p xs ≡ false → sum_where p f xs ≡ pos 0
sum_where-none p f [] none = refl
sum_where-none p f (x ∷ xs) none =
    let parts = or_parts (p x) (list_any p xs) none in
    sum_where_apart p f x xs parts.0 ∙ sum_where-none p f xs parts.1

-- ---- Sums in a name.

abbrev in_name : List ℕ → List ℕ × ℤ → Bool
in_name name pair = same_text name pair.0

abbrev number : List ℕ × ℤ → ℤ
number pair = pair.1

pub sum_in-cons : (p : List ℕ × ℤ) (ps : List (List ℕ × ℤ)) (name : List ℕ)
    → sum_in (p ∷ ps) name ≡ cond (same_text name p.0) (p.1 +ℤ sum_in ps name) (sum_in ps name)
sum_in-cons p ps name = sum_where-cons (in_name name) number p ps

pub sum_in_here : (p : List ℕ × ℤ) (ps : List (List ℕ × ℤ)) (name : List ℕ) → same_text name p.0 ≡ true
    → sum_in (p ∷ ps) name ≡ p.1 +ℤ sum_in ps name
sum_in_here p ps name = sum_where_here (in_name name) number p ps

pub sum_in_apart : (p : List ℕ × ℤ) (ps : List (List ℕ × ℤ)) (name : List ℕ) → same_text name p.0 ≡ false
    → sum_in (p ∷ ps) name ≡ sum_in ps name
sum_in_apart p ps name = sum_where_apart (in_name name) number p ps

pub sum_in-append : (ps qs : List (List ℕ × ℤ)) (name : List ℕ) → sum_in (ps ++ qs) name ≡ sum_in ps name +ℤ sum_in qs name
sum_in-append ps qs name = sum_where-append (in_name name) number ps qs

pub sum_in-push_here : (ps : List (List ℕ × ℤ)) (p : List ℕ × ℤ) (name : List ℕ) → same_text name p.0 ≡ true
    → sum_in (ps ++ p ∷ []) name ≡ sum_in ps name +ℤ p.1
sum_in-push_here ps p name e =
    sum_where-push (in_name name) number ps p ∙ ap (λ b. cond b (sum_in ps name +ℤ p.1) (sum_in ps name)) e

pub sum_in-push_apart : (ps : List (List ℕ × ℤ)) (p : List ℕ × ℤ) (name : List ℕ) → same_text name p.0 ≡ false
    → sum_in (ps ++ p ∷ []) name ≡ sum_in ps name
sum_in-push_apart ps p name e =
    sum_where-push (in_name name) number ps p ∙ ap (λ b. cond b (sum_in ps name +ℤ p.1) (sum_in ps name)) e

-- the sum in a name that no pair has is zero
pub sum_in-none : (name : List ℕ) (ps : List (List ℕ × ℤ)) → list_any (in_name name) ps ≡ false → sum_in ps name ≡ pos 0
sum_in-none name ps none = sum_where-none (in_name name) number ps none

pub sum_in-unnamed : (name : List ℕ) (ps : List (List ℕ × ℤ))
    → list_any (same_text name) (map (λ (p : List ℕ × ℤ). p.0) ps) ≡ false → sum_in ps name ≡ pos 0
sum_in-unnamed name ps none = sum_in-none name ps (sym (list_any-map (same_text name) (λ (p : List ℕ × ℤ). p.0) ps) ∙ none)
