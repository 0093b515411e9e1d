-- What legs of one sign move, and what they weigh.
use Rattle.std.specs.Prelude.{◌≡◌, ℕ, zero, suc, ◌+◌, ◌*◌, ◌<◌, ◌≤◌, true, List, [], ◌∷◌, length, map, ℤ, pos, ◌+ℤ◌, ◌*ℤ◌, neg_ℤ, unsigned_abs}
use Rattle.std.specs.List.{list_all}
use Rattle.std.proofs.Common.{get_or, take, refl, sym, ap, ◌∙◌, arith}
use Rattle.std.proofs.Math.IntN.{*ℤ_comm, *ℤ-zero, suc_ℤ-*ℤ}
use Rattle.std.proofs.lemmas.Bool.{and_parts}
use Rattle.std.proofs.lemmas.Int.{ints}
use Rattle.std.proofs.lemmas.List.{take_more}
use Rattle.std.proofs.lemmas.List.Sums.{sum_by_push, sum_by-take-le}
use Rattle.lot_num.specs.Amount.{IsUnits, rate_limit, units_limit}
use Rattle.lot_num.specs.Sum.{sum_of}
use Rattle.lot_cost.specs.declared.lot_key.LotKey.{LotKey}
use Rattle.lot_inv.specs.Inventory.{held_in}
use Rattle.lot_inv.proofs.AvailableLemmas.{held_in-cons}
use Rattle.lot_booking.specs.Booking.{units_in}
use Rattle.lot_booking.specs.Choice.{with_sign_of}
use Rattle.lot_booking.proofs.BookingLaws.{size_of-sign}
use Rattle.lot_book.specs.Sale.{AreLegsOf, same_sign}

-- ---- how many units legs move

no_units : (units : ℤ) → pos 0 ≡ with_sign_of units 0
no_units units = grind (arith, ints)

one_more : (units leg : ℤ) (moved : ℕ) → same_sign units leg ≡ true
    → leg +ℤ with_sign_of units moved ≡ with_sign_of units (unsigned_abs leg + moved)
one_more units leg moved same = grind (arith, ints)

-- legs of one sign add up to all that they move
sum_of_signs : (units : ℤ) (legs : List (LotKey × ℤ)) → list_all (λ (leg : LotKey × ℤ). same_sign units leg.1) legs ≡ true
    → units_in legs ≡ with_sign_of units (held_in legs)
sum_of_signs units [] same = no_units units
sum_of_signs units (leg ∷ legs) same =
    let parts = and_parts (same_sign units leg.1) (list_all (λ (l : LotKey × ℤ). same_sign units l.1) legs) same in
    ap (λ z. leg.1 +ℤ z) (sum_of_signs units legs parts.1)
    ∙ one_more units leg.1 (held_in legs) parts.0
    ∙ ap (with_sign_of units) (sym (held_in-cons leg legs))

-- the legs of a sale move its units
pub held_in-legs : (units : ℤ) (legs : List (LotKey × ℤ)) → AreLegsOf units legs → held_in legs ≡ unsigned_abs units
held_in-legs units legs are =
    sym (size_of-sign units (held_in legs)) ∙ ap unsigned_abs (sym (sum_of_signs units legs are.signs)) ∙ ap unsigned_abs are.sum

held_in-more : (legs : List (LotKey × ℤ)) (i : ℕ) (leg : LotKey × ℤ) → i < length legs → leg ≡ get_or legs i leg
    → held_in (take (i + 1) legs) ≡ held_in (take i legs) + unsigned_abs leg.1
held_in-more legs i leg below is =
    ap held_in (take_more legs i leg below) ∙ sum_by_push (λ (l : LotKey × ℤ). unsigned_abs l.1) (take i legs) (get_or legs i leg)
    ∙ ap (λ (next : LotKey × ℤ). held_in (take i legs) + unsigned_abs next.1) (sym is)

-- ---- what they weigh

-- one more leg weighs no more than its units can
pub cost_within : (legs : List (LotKey × ℤ)) (i : ℕ) (leg : LotKey × ℤ) (cost more : ℤ) → i < length legs
    → leg ≡ get_or legs i leg
    → unsigned_abs cost ≤ held_in (take i legs) * rate_limit → unsigned_abs more ≤ unsigned_abs (neg_ℤ leg.1) * rate_limit
    → unsigned_abs (cost +ℤ more) ≤ held_in (take (i + 1) legs) * rate_limit
cost_within legs i leg cost more below is within small =
    let moved = held_in-more legs i leg below is in
    let size : unsigned_abs (cost +ℤ more) ≤ unsigned_abs cost + unsigned_abs more = omega (arith, ints) in
    let turned : unsigned_abs (neg_ℤ leg.1) ≡ unsigned_abs leg.1 = omega (arith, ints) in
    rw moved (omega arith)

-- the first legs of a sale weigh less than the limits of units and rates allow
pub cost_in_range : (units : ℤ) (legs : List (LotKey × ℤ)) (i : ℕ) (cost : ℤ) → IsUnits units → AreLegsOf units legs
    → unsigned_abs cost ≤ held_in (take i legs) * rate_limit → unsigned_abs cost ≤ units_limit * rate_limit
cost_in_range units legs i cost range are within =
    let moved = held_in-legs units legs are in
    let part = sum_by-take-le (λ (l : LotKey × ℤ). unsigned_abs l.1) legs i in
    let few : held_in (take i legs) ≤ units_limit = omega arith in
    omega arith

-- units with the sign turned at a price, leg by leg, come to all units at it
times_more : (z : ℤ) (n : ℕ) → z *ℤ pos (suc n) ≡ z *ℤ pos n +ℤ z
times_more z n = *ℤ_comm z (pos (suc n)) ∙ suc_ℤ-*ℤ (pos n) z ∙ ap (λ product. product +ℤ z) (*ℤ_comm (pos n) z)

step : (a b : ℤ) (rate : ℕ) → neg_ℤ a *ℤ pos rate +ℤ neg_ℤ b *ℤ pos rate ≡ neg_ℤ (a +ℤ b) *ℤ pos rate
step a b zero = rw (*ℤ-zero (neg_ℤ a), *ℤ-zero (neg_ℤ b), *ℤ-zero (neg_ℤ (a +ℤ b))) refl
step a b (suc rate) =
    let rest = step a b rate in
    rw (times_more (neg_ℤ a) rate, times_more (neg_ℤ b) rate, times_more (neg_ℤ (a +ℤ b)) rate)
    (regroup (neg_ℤ a *ℤ pos rate) (neg_ℤ b *ℤ pos rate) (neg_ℤ (a +ℤ b) *ℤ pos rate) a b rest)
  where
    regroup : (x y z a b : ℤ) → x +ℤ y ≡ z → (x +ℤ neg_ℤ a) +ℤ (y +ℤ neg_ℤ b) ≡ z +ℤ neg_ℤ (a +ℤ b)
    regroup x y z a b e = omega (arith, ints)

pub proceeds_each : (rate : ℕ) (legs : List (LotKey × ℤ))
    → sum_of (map (λ (leg : LotKey × ℤ). neg_ℤ leg.1 *ℤ pos rate) legs) ≡ neg_ℤ (units_in legs) *ℤ pos rate
proceeds_each rate [] = omega (arith, ints)
proceeds_each rate (leg ∷ legs) =
    ap (λ z. neg_ℤ leg.1 *ℤ pos rate +ℤ z) (proceeds_each rate legs) ∙ step leg.1 (units_in legs) rate
