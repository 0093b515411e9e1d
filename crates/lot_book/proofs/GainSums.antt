-- Sums over legs.
use Rattle.std.proofs.Common.{◌≡◌, ℕ, ◌+◌, ◌<◌, ℤ, ◌+ℤ◌, List, [], ◌∷◌, ◌++◌, length, get_or, take, map, sym, ap, ◌∙◌}
use Rattle.std.proofs.Math.IntN.{+ℤ_assoc, +ℤ_idl, +ℤ_idr}
use Rattle.std.proofs.lemmas.List.{map-append, take_more}
use Rattle.lot_num.specs.Sum.{sum_of}

sum_of-push : (zs : List ℤ) (z : ℤ) → sum_of (zs ++ z ∷ []) ≡ sum_of zs +ℤ z
sum_of-push [] z = +ℤ_idr z ∙ sym (+ℤ_idl z)
sum_of-push (y ∷ ys) z = ap (λ s. y +ℤ s) (sum_of-push ys z) ∙ sym (+ℤ_assoc y (sum_of ys) z)

-- the sum over one more element
pub sum_over_more : {X : Type 0} (f : X → ℤ) (xs : List X) (i : ℕ) (x : X) → i < length xs → x ≡ get_or xs i x
    → sum_of (map f (take (i + 1) xs)) ≡ sum_of (map f (take i xs)) +ℤ f x
sum_over_more f xs i x below is =
    ap (λ ys. sum_of (map f ys)) (take_more xs i x below)
    ∙ ap sum_of (map-append f (take i xs) (get_or xs i x ∷ []))
    ∙ sum_of-push (map f (take i xs)) (f (get_or xs i x))
    ∙ ap (λ y. sum_of (map f (take i xs)) +ℤ f y) (sym is)
