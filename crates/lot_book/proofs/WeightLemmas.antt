-- Weights that are units.
use Rattle.std.proofs.Common.{◌≡◌, ℕ, zero, suc, ◌*◌, ◌/◌, ◌%◌, ◌<◌, ℤ, pos, negsuc, ◌*ℤ◌, neg_ℤ, true, ◌&&◌, eqb, ltb, refl, ap, ◌∙◌, arith}
use Rattle.std.proofs.lemmas.Bool.Decides.{nat_tests}
use Rattle.lot_num.specs.Amount.{one, units_limit}
use Rattle.lot_book.specs.Balance.{fits_units, opposite}

pub divided : (n : ℕ) → (eqb (n % one) 0 && ltb n (units_limit * one)) ≡ true → (n / one * one ≡ n) × (n / one < units_limit)
divided n h = (grind (arith, nat_tests), grind (arith, nat_tests))

pub times_negative : (n : ℕ) → neg_ℤ (pos n) *ℤ pos one ≡ neg_ℤ (pos (n * one))
times_negative zero = refl
times_negative (suc n) = refl

negative_twice : (n : ℕ) → neg_ℤ (neg_ℤ (pos n)) ≡ pos n
negative_twice zero = refl
negative_twice (suc n) = refl

-- what takes up a weight that is units is exactly its opposite
pub opposite_exact : (z : ℤ) → fits_units z ≡ true → opposite z *ℤ pos one ≡ neg_ℤ z
opposite_exact (pos a) h = times_negative (a / one) ∙ ap (λ n. neg_ℤ (pos n)) (divided a h).0
opposite_exact (negsuc a) h =
    ap (λ u. u *ℤ pos one) (negative_twice (suc a / one)) ∙ ap pos (divided (suc a) h).0
