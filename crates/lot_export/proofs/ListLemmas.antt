-- Lists that are paired, and one that is split.
use Rattle.std.proofs.Common.{◌≡◌, ℕ, ◌+◌, ◌<◌, length, take, drop, get_or, List, [], ◌∷◌, ◌++◌, sym, ap, ◌∙◌}
use Rattle.std.specs.List.{AllZip}
use Rattle.std.proofs.lemmas.List.{drop_more, take-append-drop}

pub push : {A B : Type 0} (R : A → B → Type 0) (xs : List A) (ys : List B) (x : A) (y : B) → AllZip R xs ys → R x y → AllZip R (xs ++ x ∷ []) (ys ++ y ∷ [])
push R [] [] x y all one = (one, tt)
push R [] (b ∷ ys) x y all one = absurd all
push R (a ∷ xs) [] x y all one = absurd all
push R (a ∷ xs) (b ∷ ys) x y all one = (all.0, push R xs ys x y all.1 one)

pub split : {A : Type 0} (xs : List A) (at : ℕ) (x : A) → at < length xs → x ≡ get_or xs at x → xs ≡ take at xs ++ x ∷ drop (at + 1) xs
split xs at x small is =
    sym (take-append-drop at xs) ∙ ap (λ rest. take at xs ++ rest) (drop_more xs at x small ∙ ap (λ y. y ∷ drop (at + 1) xs) (sym is))
