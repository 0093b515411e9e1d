-- Sums of what lots gain.
use Rattle.std.specs.Prelude.{◌≡◌, ℤ, pos, neg_ℤ, ◌+ℤ◌, ◌-ℤ◌, ◌*ℤ◌, Bool, true, false, cond, List, [], ◌∷◌, ◌++◌, map, zip, ◌⊎◌, int_lt}
use Rattle.std.proofs.Common.{refl, ap, ◌∙◌, arith, inl, inr}
use Rattle.std.proofs.lemmas.Int.{ints}
use Rattle.lot_num.specs.Amount.{one}
use Rattle.lot_num.specs.Sum.{sum_of}
use Rattle.lot_book.specs.declared.gain.Gain.{Gain}
use Rattle.lot_book.specs.Gain.{gain_from, with_opposite_sign}
use Rattle.lot_csv.specs.Shares.{AddUpTo, with_rest}

-- a map over a map
pub fused : {X Y Z : Type 0} (f : Y → Z) (v : X → Y) (xs : List X) → map f (map v xs) ≡ map (λ x. f (v x)) xs
fused f v [] = refl
fused f v (x ∷ xs) = ap (λ ys. f (v x) ∷ ys) (fused f v xs)

module _ {X : Type 0} (proceeds cost : X → ℤ) where
  less_costs : (xs : List X) → sum_of (map (λ x. proceeds x -ℤ cost x) xs) ≡ sum_of (map proceeds xs) -ℤ sum_of (map cost xs)
  less_costs [] = refl
  less_costs (x ∷ xs) =
      ap (λ z. (proceeds x -ℤ cost x) +ℤ z) (less_costs xs)
      ∙ regroup (proceeds x) (cost x) (sum_of (map proceeds xs)) (sum_of (map cost xs))
    where
      regroup : (p c ps cs : ℤ) → (p -ℤ c) +ℤ (ps -ℤ cs) ≡ (p +ℤ ps) -ℤ (c +ℤ cs)
      regroup p c ps cs = omega (arith, ints)

  -- what lots gain adds up to what they go for less what they cost
  pub gains_add_up : (xs : List X) (all_proceeds all_costs : ℤ) → sum_of (map proceeds xs) ≡ all_proceeds → sum_of (map cost xs) ≡ all_costs
      → AddUpTo (map (λ x. gain_from (proceeds x) (cost x)) xs) (gain_from all_proceeds all_costs)
  gains_add_up xs all_proceeds all_costs p c = record {
    proceeds = ap sum_of (fused (λ (g : Gain). g.proceeds) (λ x. gain_from (proceeds x) (cost x)) xs) ∙ p;
    cost = ap sum_of (fused (λ (g : Gain). g.cost) (λ x. gain_from (proceeds x) (cost x)) xs) ∙ c;
    gain =
        ap sum_of (fused (λ (g : Gain). g.gain) (λ x. gain_from (proceeds x) (cost x)) xs)
        ∙ less_costs xs ∙ (λ i. p i -ℤ c i);
  }

-- ---- shares

sum_push : (zs : List ℤ) (z : ℤ) → sum_of (zs ++ z ∷ []) ≡ sum_of zs +ℤ z
sum_push [] z = omega (arith, ints)
sum_push (y ∷ ys) z = ap (λ s. y +ℤ s) (sum_push ys z) ∙ regroup y (sum_of ys) z
  where
    regroup : (a b c : ℤ) → a +ℤ (b +ℤ c) ≡ (a +ℤ b) +ℤ c
    regroup a b c = omega (arith, ints)

-- with what is left of a total parts add up to it
pub rest_completes : (total : ℤ) (parts : List ℤ) → sum_of (with_rest total parts) ≡ total
rest_completes total parts = sum_push parts (total -ℤ sum_of parts) ∙ back total (sum_of parts)
  where
    back : (t s : ℤ) → s +ℤ (t -ℤ s) ≡ t
    back t s = omega (arith, ints)

abbrev by_sign : Bool → ℤ → ℤ
by_sign below total = cond below (total *ℤ pos one) (neg_ℤ (total *ℤ pos one))

one_sign : (below : Bool) (z zs : ℤ) → by_sign below z +ℤ by_sign below zs ≡ by_sign below (z +ℤ zs)
one_sign true z zs = omega (arith, ints)
one_sign false z zs = omega (arith, ints)

no_sign : (below : Bool) → pos 0 ≡ by_sign below (pos 0)
no_sign true = refl
no_sign false = refl

-- shares with the opposite sign of units add up to the total with it
pub signed_shares : (units : ℤ) (shares : List ℤ) → sum_of (map (with_opposite_sign units) shares) ≡ with_opposite_sign units (sum_of shares)
signed_shares units [] = no_sign (int_lt units (pos 0))
signed_shares units (share ∷ shares) =
    ap (λ z. with_opposite_sign units share +ℤ z) (signed_shares units shares)
    ∙ one_sign (int_lt units (pos 0)) share (sum_of shares)

-- a list that is paired with none
pub none_zipped : {X Y : Type 0} (xs : List X) (ys : List Y) → (xs ≡ []) ⊎ (ys ≡ []) → zip xs ys ≡ []
none_zipped xs ys (inl none) = ap (λ l. zip l ys) none
none_zipped [] ys (inr none) = refl
none_zipped (x ∷ xs) ys (inr none) = ap (λ l. zip (x ∷ xs) l) none
