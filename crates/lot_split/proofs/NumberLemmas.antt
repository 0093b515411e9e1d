-- Products by a number that isn't zero, and quotients.
use Rattle.std.proofs.Common.{◌≡◌, ℕ, zero, suc, ◌+◌, ◌≢◌, ◌≤◌, ◌<◌, mul-le-mul_left, mul-le-mul_right, ℤ, pos, ◌+ℤ◌, ◌*ℤ◌, ◌-ℤ◌, ◌-◌, ◌*◌, inl, inr, ap, ◌∙◌, sym, arith}
use Rattle.std.specs.Int.RustNames.{int_div, int_rem, unsigned_abs}
use Rattle.std.proofs.lemmas.Int.{ints, by_lt_z, unsigned_abs-mul, quot-rem, rem_below}
use Rattle.std.proofs.lemmas.Bool.{cases_lt}
use Rattle.std.proofs.Math.IntN.{*ℤ_comm, *ℤ-zero, suc_ℤ-*ℤ}
use Rattle.lot_num.specs.Amount.{one}
use Rattle.lot_rounding.specs.Nearest.{IsNearest}
use Rattle.lot_rounding.proofs.NearestLemmas.{apart, positive}

-- equal products by one number are of equal numbers
pub cancel : (a b : ℤ) (d : ℕ) → 1 ≤ d → a *ℤ pos d ≡ b *ℤ pos d → a ≡ b
cancel a b d some same =
    by_lt_z {P = a ≡ b} a b (λ less. absurd (omega (arith, ints, same, apart a b d less)))
    (λ least. by_lt_z {P = a ≡ b} b a (λ more. absurd (omega (arith, ints, same, apart b a d more))) (λ most. omega (arith, ints)))

-- a product leaves nothing
pub rem_nothing : (whole dividend : ℤ) (d : ℕ) → 1 ≤ d → whole *ℤ pos d ≡ dividend → int_rem dividend (pos d) ≡ pos 0
rem_nothing whole dividend d some same =
    let q = int_div dividend (pos d) in
    let r = int_rem dividend (pos d) in
    let parts : q *ℤ pos d +ℤ r ≡ dividend = quot-rem dividend (pos d) in
    let below : unsigned_abs r < d = rem_below dividend (pos d) (omega arith) in
    by_lt_z {P = r ≡ pos 0} q whole (λ less. absurd (omega (arith, ints, same, parts, below, apart q whole d less)))
    (λ least. by_lt_z {P = r ≡ pos 0} whole q (λ more. absurd (omega (arith, ints, same, parts, below, apart whole q d more)))
    (λ most.
    let one : q ≡ whole = omega (arith, ints) in
    omega (arith, ints, parts, same, ap (λ z. z *ℤ pos d) one)))

-- ---- Products of sums and of products.

times_more : (z : ℤ) (n : ℕ) → z *ℤ pos (suc n) ≡ z *ℤ pos n +ℤ z
times_more z n = *ℤ_comm z (pos (suc n)) ∙ suc_ℤ-*ℤ (pos n) z ∙ ap (λ product. product +ℤ z) (*ℤ_comm (pos n) z)

pub times_sum : (z : ℤ) (m n : ℕ) → z *ℤ pos (m + n) ≡ z *ℤ pos m +ℤ z *ℤ pos n
times_sum z m zero =
    let same : m + 0 ≡ m = omega arith in
    omega (arith, ints, ap (λ k. z *ℤ pos k) same, *ℤ-zero z)
times_sum z m (suc n) =
    let same : m + suc n ≡ suc (m + n) = omega arith in
    omega (arith, ints, ap (λ k. z *ℤ pos k) same, times_more z (m + n), times_more z n, times_sum z m n)

pub times_times : (z : ℤ) (m n : ℕ) → (z *ℤ pos m) *ℤ pos n ≡ z *ℤ pos (m * n)
times_times z m zero =
    let none : m * 0 ≡ 0 = omega arith in
    omega (arith, ints, ap (λ k. z *ℤ pos k) none, *ℤ-zero z, *ℤ-zero (z *ℤ pos m))
times_times z m (suc n) =
    let same : m * suc n ≡ m * n + m = omega arith in
    omega (arith, ints, ap (λ k. z *ℤ pos k) same, times_sum z (m * n) m, times_more (z *ℤ pos m) n, times_times z m n)

-- factors in another order
pub times_turned : (z : ℤ) (m n : ℕ) → (z *ℤ pos m) *ℤ pos n ≡ (z *ℤ pos n) *ℤ pos m
times_turned z m n =
    let same : m * n ≡ n * m = omega arith in
    times_times z m n ∙ ap (λ k. z *ℤ pos k) same ∙ sym (times_times z n m)

pub less_times : (a b : ℤ) (n : ℕ) → (a -ℤ b) *ℤ pos n ≡ a *ℤ pos n -ℤ b *ℤ pos n
less_times a b zero = omega (arith, ints, *ℤ-zero (a -ℤ b), *ℤ-zero a, *ℤ-zero b)
less_times a b (suc n) = omega (arith, ints, times_more (a -ℤ b) n, times_more a n, times_more b n, less_times a b n)

few_times : (x y o : ℕ) → 1 ≤ o → x * o ≤ y * o → x ≤ y
few_times x y o some within = elim (cases_lt y x) [
  | inl more ↦ (
      let least : suc y ≤ x = omega arith in
      absurd (omega (arith, mul-le-mul_right o least))
      )
  | inr most ↦ most
]

pub both_times : (a b : ℤ) (n : ℕ) → (a +ℤ b) *ℤ pos n ≡ a *ℤ pos n +ℤ b *ℤ pos n
both_times a b zero = omega (arith, ints, *ℤ-zero (a +ℤ b), *ℤ-zero a, *ℤ-zero b)
both_times a b (suc n) = omega (arith, ints, times_more (a +ℤ b) n, times_more a n, times_more b n, both_times a b n)

-- equal products of one number that isn't zero are by equal numbers
pub cancel_first : (h : ℤ) (m n : ℕ) → h ≢ pos 0 → h *ℤ pos m ≡ h *ℤ pos n → m ≡ n
cancel_first h m n some same =
    let sizes : unsigned_abs h * m ≡ unsigned_abs h * n =
    sym (unsigned_abs-mul h (pos m)) ∙ ap unsigned_abs same ∙ unsigned_abs-mul h (pos n) in
    let least : 1 ≤ unsigned_abs h = positive h some in
    let fewer = few_times m n (unsigned_abs h) least (omega (arith, sizes)) in
    let more = few_times n m (unsigned_abs h) least (omega (arith, sizes)) in
    omega (arith, fewer, more)

-- ---- What a split leaves of the cost of a lot.

-- the difference of two products of one number
apart_by : (u : ℤ) (a b n : ℕ) → 2 * unsigned_abs (pos a -ℤ pos b) ≤ n → 2 * unsigned_abs (u *ℤ pos a -ℤ u *ℤ pos b) ≤ unsigned_abs u * n
apart_by u a b n near = elim (cases_lt a b) [
  | inl less ↦ (
      let same : a + (b - a) ≡ b = omega arith in
      let few : 2 * (b - a) ≤ n = omega (arith, ints) in
      let size = unsigned_abs-mul u (pos (b - a)) in
      omega (arith, ints, times_sum u a (b - a), ap (λ k. u *ℤ pos k) same, size, mul-le-mul_left (unsigned_abs u) few)
      )
  | inr least ↦ (
      let same : b + (a - b) ≡ a = omega arith in
      let few : 2 * (a - b) ≤ n = omega (arith, ints) in
      let size = unsigned_abs-mul u (pos (a - b)) in
      omega (arith, ints, times_sum u b (a - b), ap (λ k. u *ℤ pos k) same, size, mul-le-mul_left (unsigned_abs u) few)
      )
]

-- the dividend and the nearest product, without the eight decimals of units
near_products : (a s n : ℕ) → IsNearest (pos a *ℤ pos one) (n * one) (pos s) → 2 * unsigned_abs (pos a -ℤ pos (n * s)) ≤ n
near_products a s n nearest =
    let near = nearest.near in
    let same : s * (n * one) ≡ n * s * one = omega arith in
    omega (arith, ints, near, same)

-- Units u at a rate r become units w at a rate s. The costs differ by at most half of the units w.
pub near_cost : (u w : ℤ) (r s n o : ℕ) → 1 ≤ o → w *ℤ pos o ≡ u *ℤ pos n → IsNearest (pos (r * o) *ℤ pos one) (n * one) (pos s)
    → 2 * unsigned_abs (u *ℤ pos r -ℤ w *ℤ pos s) ≤ unsigned_abs w
near_cost u w r s n o some units nearest =
    let d = u *ℤ pos r -ℤ w *ℤ pos s in
    let turned : (w *ℤ pos s) *ℤ pos o ≡ u *ℤ pos (n * s) =
    times_turned w s o ∙ ap (λ z. z *ℤ pos s) units ∙ times_times u n s in
    let product : d *ℤ pos o ≡ u *ℤ pos (r * o) -ℤ u *ℤ pos (n * s) =
    omega (arith, ints, less_times (u *ℤ pos r) (w *ℤ pos s) o, times_times u r o, turned) in
    let bound = apart_by u (r * o) (n * s) n (near_products (r * o) s n nearest) in
    let size : unsigned_abs d * o ≡ unsigned_abs (u *ℤ pos (r * o) -ℤ u *ℤ pos (n * s)) =
    sym (unsigned_abs-mul d (pos o)) ∙ ap unsigned_abs product in
    let sizes : unsigned_abs w * o ≡ unsigned_abs u * n =
    sym (unsigned_abs-mul w (pos o)) ∙ ap unsigned_abs units ∙ unsigned_abs-mul u (pos n) in
    few_times (2 * unsigned_abs d) (unsigned_abs w) o some (omega (arith, size, sizes, bound))

-- Where s times n is r times o, the costs are the same.
pub same_cost : (u w : ℤ) (r s n o : ℕ) → 1 ≤ o → w *ℤ pos o ≡ u *ℤ pos n → s * n ≡ r * o → w *ℤ pos s ≡ u *ℤ pos r
same_cost u w r s n o some units exact =
    let product : n * s ≡ r * o = omega (arith, exact) in
    cancel (w *ℤ pos s) (u *ℤ pos r) o some
    (times_turned w s o ∙ ap (λ z. z *ℤ pos s) units ∙ times_times u n s ∙ ap (λ k. u *ℤ pos k) product ∙ sym (times_times u r o))

-- and s is the nearest number
pub exact_nearest : (r s n o : ℕ) → 1 ≤ n → s * n ≡ r * o → IsNearest (pos (r * o) *ℤ pos one) (n * one) (pos s)
exact_nearest r s n o some exact =
    let product : s * (n * one) ≡ r * o * one = omega (arith, exact) in
    record { near = omega (arith, ints, product); even = λ half. absurd (omega (arith, ints, product, half)) }
