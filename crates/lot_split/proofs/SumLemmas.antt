-- Sums over what passes a test.
use Rattle.std.specs.Prelude.{◌≡◌, ℕ, Bool, cond, List, [], ◌∷◌, ◌++◌, map, filter, ℤ, pos, ◌+ℤ◌}
use Rattle.std.proofs.Common.{refl, sym, ap, ◌∙◌}
use Rattle.std.proofs.Math.IntN.{+ℤ_assoc, +ℤ_idl, +ℤ_idr}
use Rattle.lot_base.specs.Text.{same_text}
use Rattle.lot_num.specs.Sum.{sum_of}
use Rattle.lot_split.specs.Lots.{cost_in, cost_of, held_of}
use Rattle.lot_split.specs.declared.lot.HeldLot.{HeldLot}
use Rattle.lot_split.proofs.ListLemmas.{by_bool}

-- the sum over what passes a test
abbrev pub sum_where : {X : Type 0} → (X → Bool) → (X → ℤ) → List X → ℤ
sum_where p f xs = sum_of (map f (filter p xs))

pub sum_where-cons : {X : Type 0} (p : X → Bool) (f : X → ℤ) (x : X) (xs : List X)
    → sum_where p f (x ∷ xs) ≡ cond (p x) (f x +ℤ sum_where p f xs) (sum_where p f xs)
sum_where-cons p f x xs = by_bool (p x) (λ here. rw here refl) (λ apart. rw apart refl)

-- one more in front adds its part: what it counts where it passes, else nothing
pub sum_where_part : {X : Type 0} (p : X → Bool) (f : X → ℤ) (x : X) (xs : List X)
    → sum_where p f (x ∷ xs) ≡ cond (p x) (f x) (pos 0) +ℤ sum_where p f xs
sum_where_part p f x xs = by_bool (p x) (λ here. rw here refl) (λ apart. rw apart (sym (+ℤ_idl (sum_where p f xs))))

-- and so does one more at the end
pub sum_where_more : {X : Type 0} (p : X → Bool) (f : X → ℤ) (xs : List X) (x : X)
    → sum_where p f (xs ++ x ∷ []) ≡ sum_where p f xs +ℤ cond (p x) (f x) (pos 0)
sum_where_more p f [] x =
    sum_where_part p f x [] ∙ +ℤ_idr (cond (p x) (f x) (pos 0)) ∙ sym (+ℤ_idl (cond (p x) (f x) (pos 0)))
sum_where_more p f (y ∷ ys) x =
    sum_where_part p f y (ys ++ x ∷ []) ∙ ap (λ z. cond (p y) (f y) (pos 0) +ℤ z) (sum_where_more p f ys x)
    ∙ sym (+ℤ_assoc (cond (p y) (f y) (pos 0)) (sum_where p f ys) (cond (p x) (f x) (pos 0)))
    ∙ ap (λ z. z +ℤ cond (p x) (f x) (pos 0)) (sym (sum_where_part p f y ys))

-- ---- lots

abbrev pub is_in : List ℕ → HeldLot → Bool
is_in currency lot = same_text currency lot.key.currency

pub cost_more : (currency : List ℕ) (lots : List HeldLot) (lot : HeldLot)
    → cost_in currency (lots ++ lot ∷ []) ≡ cost_in currency lots +ℤ cond (same_text currency lot.key.currency) (cost_of lot) (pos 0)
cost_more currency lots lot = sum_where_more (is_in currency) cost_of lots lot

pub held_more : (lots : List HeldLot) (lot : HeldLot) → held_of (lots ++ lot ∷ []) ≡ held_of lots +ℤ lot.units
held_more [] lot = +ℤ_idr lot.units ∙ sym (+ℤ_idl lot.units)
held_more (first ∷ lots) lot =
    ap (λ z. first.units +ℤ z) (held_more lots lot) ∙ sym (+ℤ_assoc first.units (held_of lots) lot.units)
