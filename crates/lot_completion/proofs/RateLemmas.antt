-- Postings with rates, one after another.
use Rattle.std.proofs.Common.{◌≡◌, ◌≢◌, ℕ, true, false, ◌+◌, ◌<◌, List, [], ◌∷◌, ◌++◌, length, get_or, take, drop, append_assoc, Option, None, Some, ℤ, refl, ap, ◌∙◌, subst, sym}
use Rattle.std.specs.Prelude.{is_some}
use Rattle.std.specs.List.{AllByRecursion, AllZip}
use Rattle.std.proofs.lemmas.List.{take-append-drop, take_more}
use Rattle.std.proofs.lemmas.List.Elements.{filter_map-append}
use Rattle.lot_num.specs.Amount.{per_unit}
use Rattle.lot_cost.specs.declared.cost.Cost.TheVariants.{Whole}
use Rattle.lot_cost.specs.declared.cost_spec.CostSpec.{CostSpec}
use Rattle.lot_completion.specs.Rates.{RatesTotal, Stays, left_of, postings_of}
use Rattle.lot_completion.specs.declared.rates.RatedCost.{RatedCost}
use Rattle.lot_completion.specs.declared.rates.RatedPosting.{RatedPosting}

-- ---- a total

-- a total stays where it has a rate
pub stays : (units : ℤ) (whole : ℤ × CostSpec) (rated : RatedCost) → per_unit units whole.0 ≢ None
    → Stays (Some (Whole whole)) rated → RatesTotal units whole (per_unit units whole.0) rated
stays units whole rated some is = by (per_unit units whole.0) some
  where
    by : (found : Option ℕ) → found ≢ None → RatesTotal units whole found rated
    by None some = absurd (some refl)
    by (Some rate) some = is

pub no_rate : (found : Option ℕ) (units total whole : ℤ) → found ≡ per_unit units total → total ≡ whole → is_some found ≡ false
    → per_unit units whole ≡ None
no_rate None units total whole is same none = ap (λ t. per_unit units t) (sym same) ∙ sym is
no_rate (Some rate) units total whole is same none = absurd cc

pub some_rate : (found : Option ℕ) (units total whole : ℤ) → found ≡ per_unit units total → total ≡ whole → is_some found ≡ true
    → per_unit units whole ≢ None
some_rate None units total whole is same some none = absurd cc
some_rate (Some rate) units total whole is same some none =
    let found : Some rate ≡ None = is ∙ ap (λ t. per_unit units t) same ∙ none in
    absurd cc

-- ---- all postings

-- one more of two lists
pub zip_more : {A B : Type 0} (R : A → B → Type 0) (xs : List A) (ys : List B) (x : A) (y : B) → AllZip R xs ys → R x y
    → AllZip R (xs ++ x ∷ []) (ys ++ y ∷ [])
zip_more R [] [] x y all next = (next, tt)
zip_more R [] (b ∷ bs) x y all next = absurd all
zip_more R (a ∷ rest) [] x y all next = absurd all
zip_more R (a ∷ rest) (b ∷ bs) x y all next = (all.0, zip_more R rest bs x y all.1 next)

-- where one of the first list has none, they have none together
pub none_zip : {A B : Type 0} (R : A → B → Type 0) (xs : List A) (x : A) (zs : List A) → ((y : B) → R x y → ⊥)
    → (ys : List B) → AllZip R (xs ++ x ∷ zs) ys → ⊥
none_zip R [] x zs none [] all = all
none_zip R [] x zs none (b ∷ bs) all = none b all.0
none_zip R (a ∷ rest) x zs none [] all = all
none_zip R (a ∷ rest) x zs none (b ∷ bs) all = none_zip R rest x zs none bs all.1

pub postings_more : (ys : List RatedPosting) (y : RatedPosting) → postings_of (ys ++ y ∷ []) ≡ postings_of ys ++ y.posting ∷ []
postings_more [] y = refl
postings_more (r ∷ rs) y = ap (λ rest. r.posting ∷ rest) (postings_more rs y)

pub left_more : (ys : List RatedPosting) (y : RatedPosting) → left_of (ys ++ y ∷ []) ≡ left_of ys ++ left_of (y ∷ [])
left_more ys y = filter_map-append (λ (r : RatedPosting). r.left) ys (y ∷ [])

-- the first ones and the next one
pub next_taken : {X : Type 0} (xs : List X) (i : ℕ) (x : X) → i < length xs → x ≡ get_or xs i x → take (i + 1) xs ≡ take i xs ++ x ∷ []
next_taken xs i x below is = take_more xs i x below ∙ ap (λ y. take i xs ++ y ∷ []) (sym is)

-- the next one stands behind the first ones, with others behind it
pub cut_at : {X : Type 0} (xs : List X) (i : ℕ) (x : X) → i < length xs → x ≡ get_or xs i x → xs ≡ take i xs ++ x ∷ drop (i + 1) xs
cut_at xs i x below is =
    sym (take-append-drop (i + 1) xs) ∙ ap (λ first. first ++ drop (i + 1) xs) (next_taken xs i x below is)
    ∙ append_assoc (take i xs) (x ∷ []) (drop (i + 1) xs)

-- what holds of all holds of the next one
pub at_next : {X : Type 0} (P : X → Type 0) (xs : List X) (i : ℕ) (x : X) → i < length xs → x ≡ get_or xs i x → AllByRecursion P xs → P x
at_next P xs i x below is all = behind (take i xs) (subst (AllByRecursion P) (cut_at xs i x below is) all)
  where
    behind : (ys : List _) → AllByRecursion P (ys ++ x ∷ drop (i + 1) xs) → P x
    behind [] all = all.0
    behind (y ∷ ys) all = behind ys all.1
