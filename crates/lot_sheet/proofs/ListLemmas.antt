-- What is left of a list, item by item.
use Rattle.std.proofs.Common.{◌≡◌, ℕ, ◌+◌, ◌<◌, ◌≤◌, subst, Bool, true, false, ◌&&◌, ◌||◌, IsTrue, List, ◌∷◌, length, drop, get_or, sym, ap, ◌∙◌, add-one, drop-cons, below_more}
use Rattle.std.proofs.lemmas.List.{drop_all}
use Rattle.std.specs.List.{list_all, list_any}

-- what is left begins with the next item
pub drop_step : {X : Type 0} (xs : List X) (i : ℕ) (d : X) → i < length xs → drop i xs ≡ get_or xs i d ∷ drop (i + 1) xs
drop_step xs i d h = rw (add-one) (drop-cons xs i d h)

pub drop_item : {X : Type 0} (xs : List X) (i : ℕ) (x : X) → i < length xs → x ≡ get_or xs i x → drop i xs ≡ x ∷ drop (i + 1) xs
drop_item xs i x here is = drop_step xs i x here ∙ ap (λ y. y ∷ drop (i + 1) xs) (sym is)

pub all_step : {X : Type 0} (p : X → Bool) (xs : List X) (i : ℕ) (d : X) → i < length xs
    → list_all p (drop i xs) ≡ (p (get_or xs i d) && list_all p (drop (i + 1) xs))
all_step p xs i d h = ap (list_all p) (drop_step xs i d h)

pub any_step : {X : Type 0} (p : X → Bool) (xs : List X) (i : ℕ) (d : X) → i < length xs
    → list_any p (drop i xs) ≡ (p (get_or xs i d) || list_any p (drop (i + 1) xs))
any_step p xs i d h = ap (list_any p) (drop_step xs i d h)

pub not_true : (b : Bool) → b ≡ false → IsTrue b → ⊥
not_true b e h = cc

-- an item is the same, whatever stands for one past the end
pub item_same : {X : Type 0} (xs : List X) (i : ℕ) (d e : X) → i < length xs → get_or xs i d ≡ get_or xs i e
item_same xs i d e h =
    ap (λ (ys : List _). get_or ys 0 d) (sym (drop_step xs i d h) ∙ drop_step xs i e h)

-- what holds of the items so far, and of the next one
pub one_more : {X : Type 0} (P : X → Type 0) (xs : List X) (i : ℕ) (x : X) → i < length xs → x ≡ get_or xs i x
    → ((k : ℕ) (d : X) → k < i → P (get_or xs k d)) → P x → (k : ℕ) (d : X) → k < i + 1 → P (get_or xs k d)
one_more {X} P xs i x here is below h k d lt =
    below_more (λ (n : ℕ). P (get_or xs n d)) i (λ n less. below n d less)
    (subst P (is ∙ item_same xs i x d here) h) k lt

-- the same where the list has another name
pub one_more_in : {X : Type 0} (P : X → Type 0) (xs ys : List X) → ys ≡ xs → (i : ℕ) (x : X) → i < length ys → x ≡ get_or ys i x
    → ((k : ℕ) (d : X) → k < i → P (get_or xs k d)) → P x → (k : ℕ) (d : X) → k < i + 1 → P (get_or xs k d)
one_more_in {X} P xs ys e i x here is below h =
    one_more P xs i x (subst (λ (l : List X). i < length l) e here) (subst (λ (l : List X). x ≡ get_or l i x) e is) below h

-- ---- Whether an item that is left passes.

module _ {X : Type 0} (p : X → Bool) (xs : List X) (i : ℕ) (all : Bool) (left : all ≡ list_any p (drop i xs)) where
  pub any_here : (d : X) → i < length xs → p (get_or xs i d) ≡ true → all ≡ true
  any_here d here e = left ∙ any_step p xs i d here ∙ ap (λ (b : Bool). b || list_any p (drop (i + 1) xs)) e

  pub any_later : (d : X) → i < length xs → p (get_or xs i d) ≡ false → all ≡ list_any p (drop (i + 1) xs)
  any_later d here e = left ∙ any_step p xs i d here ∙ ap (λ (b : Bool). b || list_any p (drop (i + 1) xs)) e

  pub any_over : length xs ≤ i → all ≡ false
  any_over over = left ∙ ap (list_any p) (drop_all i xs over)
