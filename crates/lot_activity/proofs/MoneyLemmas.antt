-- The text of a weight that is some units.
use Rattle.std.specs.Prelude.{◌≡◌, ◌≢◌, ℕ, zero, suc, ◌*◌, ◌/◌, ◌%◌, ◌^◌, ◌==◌, ◌<◌, ◌≤◌, ◌&&◌, nat_lt, true, if◌then◌else◌, ℤ, pos, negsuc, ◌*ℤ◌, neg_ℤ, ◌∷◌, ◌++◌, decimal}
use Rattle.std.proofs.Common.{rules, refl, ap, ◌∙◌, arith}
use Rattle.std.proofs.Math.IntN.{pos-*ℤ-pos, negsuc-*ℤ-pos}
use Rattle.lot_num.specs.Amount.{one}
use Rattle.lot_num.specs.AmountText.{all_decimals, amount_text, magnitude_text, point_and, shown_decimals}

-- ---- zeros at the end

below : (k : ℕ) → 2 < suc k → nat_lt 2 (suc k) ≡ true
below k more = search (rules)

rest_of_ten : (x : ℕ) → x * 10 % 10 ≡ 0
rest_of_ten x = omega arith

tenth : (x : ℕ) → x * 10 / 10 ≡ x
tenth x = omega arith

without_zero : (k x : ℕ) → 2 < suc k → shown_decimals 2 (suc k) (x * 10) ≡ shown_decimals 2 k x
unfolding shown_decimals
without_zero k x more =
    let is_zero : (x * 10 % 10 == 0) ≡ true = ap (λ r. r == 0) (rest_of_ten x) in
    λ i. if below k more i && is_zero i then shown_decimals 2 k (tenth x i) else all_decimals (suc k) (x * 10)

-- a number with so many zeros behind it
abbrev with_zeros : ℕ → ℕ → ℕ
with_zeros zero m = m
with_zeros (suc j) m = with_zeros j m * 10

-- so many decimals, and eight before them
abbrev eight_and : ℕ → ℕ
eight_and zero = 8
eight_and (suc j) = suc (eight_and j)

enough : (j : ℕ) → 8 ≤ eight_and j
enough zero = omega arith
enough (suc j) = omega (arith, enough j)

without_zeros : (j m : ℕ) → shown_decimals 2 (eight_and j) (with_zeros j m) ≡ shown_decimals 2 8 m
without_zeros zero m = refl
without_zeros (suc j) m = without_zero (eight_and j) (with_zeros j m) (omega (arith, enough j)) ∙ without_zeros j m

eight_zeros : (m : ℕ) → m * one ≡ with_zeros 8 m
eight_zeros m = omega arith

-- ---- the text

whole : (n : ℕ) → n * one / 10 ^ 16 ≡ n / 10 ^ 8
whole n = omega arith

part : (n : ℕ) → n * one % 10 ^ 16 ≡ (n % 10 ^ 8) * one
part n = omega arith

magnitude : (n : ℕ) → magnitude_text 2 16 (n * one) ≡ magnitude_text 2 8 n
magnitude n =
    (λ i. decimal (whole n i) ++ point_and (shown_decimals 2 16 (part n i)))
    ∙ ap (λ ds. decimal (n / 10 ^ 8) ++ point_and ds) (ap (shown_decimals 2 16) (eight_zeros (n % 10 ^ 8)) ∙ without_zeros 8 (n % 10 ^ 8))

negative : (m : ℕ) → m ≢ 0 → amount_text 2 16 (neg_ℤ (pos m)) ≡ 45 ∷ magnitude_text 2 16 m
unfolding amount_text
negative zero some = absurd (some refl)
negative (suc m) some = refl

pub money_of_units : (z : ℤ) → amount_text 2 16 (z *ℤ pos one) ≡ amount_text 2 8 z
unfolding amount_text
money_of_units (pos n) = ap (amount_text 2 16) (pos-*ℤ-pos n one) ∙ magnitude n
money_of_units (negsuc n) =
    ap (amount_text 2 16) (negsuc-*ℤ-pos n one) ∙ negative (suc n * one) (omega arith) ∙ ap (λ t. 45 ∷ t) (magnitude (suc n))
