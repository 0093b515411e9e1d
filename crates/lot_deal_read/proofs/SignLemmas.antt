-- What settles an amount goes its way, and what was booked has the sign of the amount.
use Rattle.std.proofs.Common.{◌≡◌, ◌⊎◌, inl, inr, ℕ, zero, suc, Bool, true, false, cond, List, Option, Some, None, ℤ, pos, negsuc, ◌+ℤ◌, ◌*ℤ◌, ◌<ℤ◌, ◌≤ℤ◌, refl, ap, sym, ◌∙◌, arith}
use Rattle.std.proofs.Math.IntN.{negsuc-*ℤ-pos, pos-*ℤ-pos}
use Rattle.std.proofs.lemmas.Bool.Decides.{Decides-int_eq}
use Rattle.std.proofs.lemmas.Int.{by_lt_z, ints}
use Rattle.std.proofs.lemmas.Option.{none-some, same_Some}
use Rattle.std.specs.Ordering.{int_eq}
use Rattle.std.specs.Prelude.{◌&&◌, ◌||◌, int_lt}
use Rattle.lot_base.specs.Text.{same_text}
use Rattle.lot_deal_read.specs.Money.{apart_from, so_much, within_currency}
use Rattle.lot_deal_read.specs.Signs.{Keeps}
use Rattle.lot_deal_read.specs.Trade.{are_opposite}
use Rattle.lot_deal_read.specs.Worth.{rounded_to_units, worth_of}
use Rattle.lot_deal_read.specs.declared.money.Money.{Money}

-- ---- The sign of what units are worth.

not_below : (z : ℤ) → pos 0 ≤ℤ z → pos 0 ≤ℤ rounded_to_units z
not_below (pos n) h = omega (arith, ints)
not_below (negsuc n) h = absurd (omega (arith, ints, h))

not_above : (z : ℤ) → z ≤ℤ pos 0 → rounded_to_units z ≤ℤ pos 0
not_above (pos zero) h = omega (arith, ints)
not_above (pos (suc n)) h = absurd (omega (arith, ints, h))
not_above (negsuc n) h = omega (arith, ints)

product_not_below : (u : ℤ) (p : ℕ) → pos 0 <ℤ u → pos 0 ≤ℤ (u *ℤ pos p)
product_not_below (pos n) p h = omega (arith, ints, pos-*ℤ-pos n p)
product_not_below (negsuc n) p h = absurd (omega (arith, ints, h))

product_not_above : (u : ℤ) (p : ℕ) → u <ℤ pos 0 → (u *ℤ pos p) ≤ℤ pos 0
product_not_above (pos n) p h = absurd (omega (arith, ints, h))
product_not_above (negsuc n) p h = omega (arith, ints, negsuc-*ℤ-pos n p)

same_worth : (z w : ℤ) (test : Bool) → cond test (Some z) None ≡ Some w → z ≡ w
same_worth z w true e = same_Some z w e
same_worth z w false e = absurd (none-some w e)

rounded_is : (u : ℤ) (p : ℕ) (fee w : ℤ) → fee ≡ pos 0 → worth_of u p fee ≡ Some w → rounded_to_units (u *ℤ pos p) ≡ w
rounded_is u p fee w none e =
    let same : u *ℤ pos p +ℤ fee *ℤ pos 100000000 ≡ u *ℤ pos p = omega (arith, ints, none) in
    sym (ap rounded_to_units same) ∙ same_worth (rounded_to_units (u *ℤ pos p +ℤ fee *ℤ pos 100000000)) w _ e

-- ---- Opposite amounts.

not_true : (b : Bool) → (b ≡ true → ⊥) → b ≡ false
not_true true wrong = absurd (wrong refl)
not_true false wrong = refl

lt_false : (a b : ℤ) → b ≤ℤ a → int_lt a b ≡ false
lt_false a b h = grind (arith, ints)

eq_false : (a b : ℤ) → (a ≡ b → ⊥) → int_eq a b ≡ false
eq_false a b wrong = not_true (int_eq a b) (λ e. wrong ((Decides-int_eq a b).0 e))

first_false : (p q r s t u : Bool) → q ≡ false → r ≡ false → t ≡ false → (p && q || r && s || t && u) ≡ false
first_false true q r s t u e f g = rw (e, f, g) refl
first_false false q r s t u e f g = rw (f, g) refl

second_false : (p q r s t u : Bool) → p ≡ false → s ≡ false → t ≡ false → (p && q || r && s || t && u) ≡ false
second_false p q true s t u e f g = rw (e, f, g) refl
second_false p q false s t u e f g = rw (e, g) refl

not_both : (b : Bool) → b ≡ true → b ≡ false → ⊥
not_both b e f = let k : true ≡ false = sym e ∙ f in cc

opposite_below : (a b : ℤ) → are_opposite a b ≡ true → pos 0 ≤ℤ b → a ≤ℤ pos 0
opposite_below a b e h =
    by_lt_z {P = a ≤ℤ pos 0} (pos 0) a
    (λ above. absurd (not_both (are_opposite a b) e
    (first_false (int_lt (pos 0) a) (int_lt b (pos 0)) (int_lt a (pos 0)) (int_lt (pos 0) b) (int_eq a (pos 0)) (int_eq b (pos 0))
    (lt_false b (pos 0) h) (lt_false a (pos 0) (omega (arith, ints, above))) (eq_false a (pos 0) (λ is. omega (arith, ints, above, is))))))
    (λ most. most)

opposite_above : (a b : ℤ) → are_opposite a b ≡ true → b ≤ℤ pos 0 → pos 0 ≤ℤ a
opposite_above a b e h =
    by_lt_z {P = pos 0 ≤ℤ a} a (pos 0)
    (λ below. absurd (not_both (are_opposite a b) e
    (second_false (int_lt (pos 0) a) (int_lt b (pos 0)) (int_lt a (pos 0)) (int_lt (pos 0) b) (int_eq a (pos 0)) (int_eq b (pos 0))
    (lt_false (pos 0) a (omega (arith, ints, below))) (lt_false (pos 0) b h) (eq_false a (pos 0) (λ is. omega (arith, ints, below, is))))))
    (λ least. least)

-- ---- A fee is in one currency.

either_by : (money : Money) (price_currency : List ℕ) (test : Bool)
    → (so_much (cond test (Some money) None) ≡ pos 0) ⊎ (so_much (within_currency price_currency (cond test None (Some money))) ≡ pos 0)
either_by money price_currency true = inr refl
either_by money price_currency false = inl refl

either : (fee : Option Money) (currency price_currency : List ℕ)
    → (so_much (within_currency currency fee) ≡ pos 0) ⊎ (so_much (within_currency price_currency (apart_from currency fee)) ≡ pos 0)
either None currency price_currency = inl refl
either (Some money) currency price_currency = either_by money price_currency (same_text money.currency currency)

keeps_by : (units : ℤ) (price : ℕ) (amount cash fee rest worth : ℤ) → (cash ≡ pos 0) ⊎ (fee ≡ pos 0)
    → rest ≡ amount +ℤ cash → worth_of units price fee ≡ Some worth → are_opposite rest worth ≡ true → Keeps units amount rest
keeps_by units price amount cash fee rest worth (inl none) sum is opposite =
    record { bought = λ some below. omega (arith, ints, none, sum, below); sold = λ some above. omega (arith, ints, none, sum, above) }
keeps_by units price amount cash fee rest worth (inr none) sum is opposite =
    let same = rounded_is units price fee worth none is in
    record {
      bought = λ some below.
          let up : pos 0 ≤ℤ rounded_to_units (units *ℤ pos price) = not_below _ (product_not_below units price some) in
          opposite_below rest worth opposite (omega (arith, ints, up, same));
      sold = λ some above.
          let down : rounded_to_units (units *ℤ pos price) ≤ℤ pos 0 = not_above _ (product_not_above units price some) in
          opposite_above rest worth opposite (omega (arith, ints, down, same));
    }

pub keeps : (units : ℤ) (price : ℕ) (amount : ℤ) (fee : Option Money) (currency price_currency : List ℕ) (rest worth : ℤ)
    → rest ≡ amount +ℤ so_much (within_currency currency fee)
    → worth_of units price (so_much (within_currency price_currency (apart_from currency fee))) ≡ Some worth
    → are_opposite rest worth ≡ true → Keeps units amount rest
keeps units price amount fee currency price_currency rest worth sum is opposite =
    keeps_by units price amount _ _ rest worth (either fee currency price_currency) sum is opposite
