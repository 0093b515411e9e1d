-- What units are worth is one amount.
use Rattle.std.proofs.Common.{◌≡◌, ◌≤◌, ◌<◌, ℕ, zero, suc, ◌+◌, ◌*◌, ◌/◌, ◌%◌, Bool, true, false, cond, Option, Some, None, ℤ, pos, negsuc, refl, ap, sym, ◌∙◌, subst, arith}
use Rattle.std.proofs.Math.Nat.{mod-lt}
use Rattle.std.proofs.lemmas.Nat.{div-add-mod'}
use Rattle.std.proofs.lemmas.Bool.Decides.{nat_tests}
use Rattle.std.proofs.lemmas.Int.{ints}
use Rattle.std.specs.Prelude.{◌*ℤ◌, IfSome, neg_ℤ, nat_lt, unsigned_abs}
use Rattle.lot_num.specs.Amount.{IsUnits, one, units_limit}
use Rattle.lot_roles.specs.Numbers.{half_even, rounds_up}
use Rattle.lot_rounding.proofs.NearestLemmas.{one_nearest}
use Rattle.lot_rounding.specs.Nearest.{IsNearest, IsRounded, most_decimals}
use Rattle.lot_deal_read.specs.Worth.{in_units, rounded_to_units}

-- ---- The nearest whole number.

down : (x d m s : ℕ) → x ≡ m * d + s → 2 * s ≤ d → (2 * s ≡ d → m % 2 ≡ 0) → IsNearest (pos x) d (pos m)
down x d m s is half even = record { near = omega (arith, ints); even = λ same. even (omega (arith, ints)) }

up : (x d m s : ℕ) → x ≡ m * d + s → s ≤ d → d ≤ 2 * s → (2 * s ≡ d → m % 2 ≡ 1) → IsNearest (pos x) d (pos (m + 1))
up x d m s is most half odd =
    let more : (m + 1) * d ≡ m * d + d = omega arith in
    record { near = omega (arith, ints, more); even = λ same. omega (arith, odd (omega (arith, ints, more))) }

by_test : (x d q r : ℕ) (test : Bool) → x ≡ q * d + r → r < d → rounds_up q r d ≡ test → IsNearest (pos x) d (pos (q + cond test 1 0))
by_test x d q r true is small e = up x d q r is (omega arith) (grind (arith, nat_tests)) (λ same. grind (arith, nat_tests))
by_test x d q r false is small e =
    let near = down x d q r is (grind (arith, nat_tests)) (λ same. grind (arith, nat_tests)) in
    subst (λ (m : ℕ). IsNearest (pos x) d (pos m)) (omega arith) near

nearest : (x d : ℕ) → 0 < d → IsNearest (pos x) d (pos (half_even x d))
nearest x d some = by_test x d (x / d) (x % d) (rounds_up (x / d) (x % d) d) (sym (div-add-mod' x d)) (mod-lt x some) refl

-- the same below zero
negated : (x d m : ℕ) → IsNearest (pos (suc x)) d (pos m) → IsNearest (negsuc x) d (neg_ℤ (pos m))
negated x d zero near = record { near = omega (arith, ints, near.near); even = λ same. refl }
negated x d (suc m) near =
    record { near = omega (arith, ints, near.near); even = λ same. near.even (omega (arith, ints, near.near)) }

-- ---- Rounded to eight decimals.

one_near : (amount : ℤ) → IsNearest amount one (rounded_to_units amount)
one_near (pos amount) = nearest amount one (omega arith)
one_near (negsuc amount) = negated amount one (half_even (suc amount) one) (nearest (suc amount) one (omega arith))

rounded_is : (amount kept : ℤ) → IsRounded most_decimals amount kept → kept ≡ rounded_to_units amount *ℤ pos one
rounded_is amount kept h =
    h.is_steps ∙ ap (λ (z : ℤ). z *ℤ pos one) (one_nearest amount one h.steps (rounded_to_units amount) (omega arith) h.nearest (one_near amount))

same_units : (a b : ℤ) → a *ℤ pos one ≡ b *ℤ pos one → a ≡ b
same_units a b e = omega (arith, ints, e)

found_by : (z : ℤ) (small : Bool) → nat_lt (unsigned_abs z) units_limit ≡ small → (kept : ℤ) (found : Option ℤ) → kept ≡ z *ℤ pos one
    → IfSome found IsUnits → IfSome found (λ units. kept ≡ units *ℤ pos one)
    → ((units : ℤ) → IsUnits units → kept ≡ units *ℤ pos one → found ≡ Some units)
    → found ≡ cond small (Some z) None
found_by z true small kept found is range some every = every z (grind (arith, nat_tests)) is
found_by z false small kept None is range some every = refl
found_by z false small kept (Some units) is range some every =
    let same : units ≡ z = same_units units z (sym some ∙ is) in
    absurd (grind (arith, nat_tests, ap unsigned_abs same))

pub worth_is : (amount kept : ℤ) (found : Option ℤ) → IsRounded most_decimals amount kept
    → IfSome found IsUnits → IfSome found (λ units. kept ≡ units *ℤ pos one)
    → ((units : ℤ) → IsUnits units → kept ≡ units *ℤ pos one → found ≡ Some units)
    → found ≡ in_units (rounded_to_units amount)
worth_is amount kept found h range some every =
    found_by (rounded_to_units amount) (nat_lt (unsigned_abs (rounded_to_units amount)) units_limit) refl kept found (rounded_is amount kept h) range some every
