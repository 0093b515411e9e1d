-- Lists that grow by their next element.
use Rattle.std.proofs.Common.{◌≡◌, ℕ, ◌+◌, ◌<◌, suc, Bool, true, false, List, [], ◌∷◌, ◌++◌, length, get_or, take, drop, append_assoc, refl, ap, ◌∙◌, sym}
use Rattle.std.specs.List.{AllZip}
use Rattle.std.proofs.lemmas.List.{take-append-drop, take_more}

pub by_bool : {P : Type 0} (b : Bool) → (b ≡ true → P) → (b ≡ false → P) → P
by_bool true holds fails = holds refl
by_bool false holds fails = fails refl

-- one more of two lists
pub zip_more : {A B : Type 0} (R : A → B → Type 0) (xs : List A) (ys : List B) (x : A) (y : B) → AllZip R xs ys → R x y
    → AllZip R (xs ++ x ∷ []) (ys ++ y ∷ [])
zip_more R [] [] x y all next = (next, tt)
zip_more R [] (b ∷ bs) x y all next = absurd all
zip_more R (a ∷ rest) [] x y all next = absurd all
zip_more R (a ∷ rest) (b ∷ bs) x y all next = (all.0, zip_more R rest bs x y all.1 next)

pub zip_length : {A B : Type 0} (R : A → B → Type 0) (xs : List A) (ys : List B) → AllZip R xs ys → length ys ≡ length xs
zip_length R [] [] all = refl
zip_length R [] (b ∷ bs) all = absurd all
zip_length R (a ∷ rest) [] all = absurd all
zip_length R (a ∷ rest) (b ∷ bs) all = ap (λ n. suc n) (zip_length R rest bs all.1)

-- the first ones and the next one
pub next_taken : {X : Type 0} (xs : List X) (i : ℕ) (x : X) → i < length xs → x ≡ get_or xs i x → take (i + 1) xs ≡ take i xs ++ x ∷ []
next_taken xs i x below is = take_more xs i x below ∙ ap (λ y. take i xs ++ y ∷ []) (sym is)

-- the next one stands behind the first ones, with others behind it
pub cut_at : {X : Type 0} (xs : List X) (i : ℕ) (x : X) → i < length xs → x ≡ get_or xs i x → xs ≡ take i xs ++ x ∷ drop (i + 1) xs
cut_at xs i x below is =
    sym (take-append-drop (i + 1) xs) ∙ ap (λ first. first ++ drop (i + 1) xs) (next_taken xs i x below is)
    ∙ append_assoc (take i xs) (x ∷ []) (drop (i + 1) xs)
