-- No two whole numbers are the nearest to a quotient.
use Rattle.std.proofs.Common.{◌≡◌, ◌≢◌, inl, inr, ℕ, zero, suc, ◌+◌, ◌-◌, ◌*◌, ◌^◌, ◌%◌, ◌<◌, ◌≤◌, ℤ, pos, negsuc, ◌+ℤ◌, ◌*ℤ◌, ◌<ℤ◌, ◌≤ℤ◌, refl, ap, ◌∙◌, sym, arith, mul-le-mul_right}
use Rattle.std.specs.Prelude.{unsigned_abs, Option, None, Some, IfSome, SomeIff}
use Rattle.std.proofs.lemmas.Int.{ints, by_lt_z, unsigned_abs-mul}
use Rattle.std.proofs.lemmas.Bool.{cases_lt}
use Rattle.std.proofs.Math.Nat.{one-le-pow, pow-le-pow_right}
use Rattle.std.proofs.lemmas.Nat.{pow-add}
use Rattle.lot_num.specs.Amount.{IsRate, IsWide, greatest_wide, one}
use Rattle.std.proofs.Math.IntN.{*ℤ_comm, suc_ℤ-*ℤ, +ℤ_one}
use Rattle.lot_rounding.specs.Nearest.{IsNearest, IsNearestRate, IsRounded, most_decimals, step}

times_more : (z : ℤ) (n : ℕ) → z *ℤ pos (suc n) ≡ z *ℤ pos n +ℤ z
times_more z n = *ℤ_comm z (pos (suc n)) ∙ suc_ℤ-*ℤ (pos n) z ∙ ap (λ product. product +ℤ z) (*ℤ_comm (pos n) z)

-- products by one divisor are at least that far apart
pub apart : (a b : ℤ) (d : ℕ) → a <ℤ b → (a *ℤ pos d +ℤ pos d) ≤ℤ (b *ℤ pos d)
apart a b zero less = omega (arith, ints, *ℤ_comm a (pos 0), *ℤ_comm b (pos 0))
apart a b (suc d) less = omega (arith, ints, times_more a d, times_more b d, apart a b d less)

product_one : (a : ℤ) (d : ℕ) → (a +ℤ pos 1) *ℤ pos d ≡ a *ℤ pos d +ℤ pos d
product_one a d = ap (λ z. z *ℤ pos d) (+ℤ_one a) ∙ suc_ℤ-*ℤ a (pos d)

-- of two numbers, one behind the other, not both are even
one_odd : (a : ℤ) → unsigned_abs a % 2 ≡ 0 → unsigned_abs (a +ℤ pos 1) % 2 ≡ 0 → ⊥
one_odd (pos n) first second = omega arith
one_odd (negsuc n) first second = omega (arith, ints)

-- the greater of two would be one behind the other, and both would be even
none_between : (n a b : ℤ) (d : ℕ) → 0 < d → IsNearest n d a → IsNearest n d b → a <ℤ b → ⊥
none_between n a b d some first second less =
    let far = apart a b d less in
    let near = first.near in
    let close = second.near in
    let next : b ≡ a +ℤ pos 1 = by_lt_z {P = b ≡ a +ℤ pos 1} (a +ℤ pos 1) b
    (λ more. let further = apart (a +ℤ pos 1) b d more in absurd (omega (arith, ints, product_one a d)))
    (λ most. omega (arith, ints)) in
    let even : unsigned_abs b % 2 ≡ 0 = second.even (omega (arith, ints)) in
    one_odd a (first.even (omega (arith, ints))) (ap (λ z. unsigned_abs z % 2) (sym next) ∙ even)

pub one_nearest : (n : ℤ) (d : ℕ) (a b : ℤ) → 0 < d → IsNearest n d a → IsNearest n d b → a ≡ b
one_nearest n d a b some first second =
    by_lt_z {P = a ≡ b} a b (λ less. absurd (none_between n a b d some first second less))
    (λ at_least. by_lt_z {P = a ≡ b} b a (λ more. absurd (none_between n b a d some second first more)) (λ at_most. omega (arith, ints)))

-- ---- A nearest number is small.

-- the product of two numbers has the product of their sizes
size_of : (a : ℤ) (d : ℕ) → unsigned_abs (a *ℤ pos d) ≡ unsigned_abs a * d
size_of a d = unsigned_abs-mul a (pos d)

-- a nearest number times the divisor is at most what some multiple of the divisor is that bounds the dividend
pub bounded : (n a : ℤ) (d most : ℕ) → 0 < d → unsigned_abs n ≤ most * d → IsNearest n d a → unsigned_abs (a *ℤ pos d) ≤ most * d
bounded n a d most some within nearest =
    let near = nearest.near in
    let sum : 2 * (unsigned_abs a * d) ≤ 2 * (most * d) + d = omega (arith, ints, size_of a d) in
    let few : unsigned_abs a ≤ most = few_steps (unsigned_abs a) most d some sum in
    rw (size_of a d) (mul-le-mul_right d few)
  where
    few_steps : (a most d : ℕ) → 0 < d → 2 * (a * d) ≤ 2 * (most * d) + d → a ≤ most
    few_steps a most d some sum = elim (cases_lt most a) [
      | inl more ↦ absurd (omega (arith, one_more most a d more))
      | inr fewer ↦ fewer
    ]
      where
        one_more : (m a d : ℕ) → m < a → m * d + d ≤ a * d
        one_more m a d more = let least : m + 1 ≤ a = omega arith in omega (arith, mul-le-mul_right d least)

-- ---- Divisors.

pub positive : (units : ℤ) → units ≢ pos 0 → 0 < unsigned_abs units
positive (pos zero) some = absurd (some refl)
positive (pos (suc n)) some = omega arith
positive (negsuc n) some = omega arith

pub step_positive : (decimals : ℕ) → 0 < step decimals
step_positive decimals = one-le-pow (16 - decimals) 10 (omega arith)

pub step_few : (decimals : ℕ) → step decimals ≤ 10 ^ 16
step_few decimals =
    let fewer : 16 - decimals ≤ 16 = omega arith in
    let some : 0 < 10 = omega arith in
    pow-le-pow_right some fewer

-- the greatest weight is a whole number of steps
pub greatest_in_steps : (decimals : ℕ) → decimals ≤ most_decimals → greatest_wide ≡ 10 ^ (22 + decimals) * step decimals
greatest_in_steps decimals few =
    let sum : 38 ≡ (22 + decimals) + (16 - decimals) = omega arith in
    ap (λ e. 10 ^ e) sum ∙ pow-add 10 (22 + decimals) (16 - decimals)

-- a nearest number of steps is no greater weight
pub rounded_in_range : (amount steps : ℤ) (decimals : ℕ) → decimals ≤ most_decimals → IsWide amount
    → IsNearest amount (step decimals) steps → IsWide (steps *ℤ pos (step decimals))
rounded_in_range amount steps decimals few wide nearest =
    let whole = greatest_in_steps decimals few in
    let within : unsigned_abs amount ≤ 10 ^ (22 + decimals) * step decimals = omega (arith, whole, wide) in
    omega (arith, whole, bounded amount steps (step decimals) (10 ^ (22 + decimals)) (step_positive decimals) within nearest)

-- ---- The nearest rate.

some_units : (units : ℤ) → 0 < unsigned_abs units → units ≢ pos 0
some_units units some none = absurd (omega (arith, ap unsigned_abs none))

-- the nearest quotient of the sizes is the nearest rate, where it is a rate
nearest_of : (units total : ℤ) (t d m : ℕ) → pos t ≡ total *ℤ pos one → d ≡ unsigned_abs units
    → IsNearest (pos t) d (pos m) → IsNearest (total *ℤ pos one) (unsigned_abs units) (pos m)
nearest_of units total t d m sum size nearest = rw (sum, size) at nearest

pub rate_some : (units total : ℤ) (t d m : ℕ) (found : Option ℕ) → pos t ≡ total *ℤ pos one → d ≡ unsigned_abs units → 0 < d
    → IsNearest (pos t) d (pos m) → SomeIff found (IsRate m) m → IfSome found (IsNearestRate units total)
rate_some units total t d m None sum size some nearest none = tt
rate_some units total t d m (Some rate) sum size some nearest is =
    let same : rate ≡ m = is.1 in
    rw same (record {
      some_units = some_units units (omega (arith, size));
      in_range = is.0;
      nearest = nearest_of units total t d m sum size nearest;
    })

pub rate_every : (units total : ℤ) (t d m rate : ℕ) (found : Option ℕ) → pos t ≡ total *ℤ pos one → d ≡ unsigned_abs units → 0 < d
    → IsNearest (pos t) d (pos m) → SomeIff found (IsRate m) m → IsNearestRate units total rate → found ≡ Some rate
rate_every units total t d m rate found sum size some nearest is other =
    let same = one_nearest (total *ℤ pos one) (unsigned_abs units) (pos m) (pos rate) (positive units other.some_units)
    (nearest_of units total t d m sum size nearest) other.nearest in
    let equal : m ≡ rate = omega (arith, ints, same) in
    where_rate found is equal
  where
    where_rate : (found : Option ℕ) → SomeIff found (IsRate m) m → m ≡ rate → found ≡ Some rate
    where_rate None none equal = absurd (none (rw equal other.in_range))
    where_rate (Some x) is equal = ap Some (is.1 ∙ equal)

-- ---- A rounded amount is units, and units are rounded already.

-- a step is so many times the least units
step_units : (decimals : ℕ) → decimals ≤ most_decimals → step decimals ≡ 10 ^ (8 - decimals) * one
step_units decimals few =
    let sum : 16 - decimals ≡ (8 - decimals) + 8 = omega arith in
    ap (λ e. 10 ^ e) sum ∙ pow-add 10 (8 - decimals) 8

regroup : (steps : ℤ) (m : ℕ) → steps *ℤ pos (m * one) ≡ (steps *ℤ pos m) *ℤ pos one
regroup steps m = omega (arith, ints)

-- an amount that is rounded to so many decimals comes to units
pub rounded_units : (decimals : ℕ) (amount rounded : ℤ) → decimals ≤ most_decimals → IsRounded decimals amount rounded
    → (units : ℤ) × (rounded ≡ units *ℤ pos one)
rounded_units decimals amount rounded few is = (
  is.steps *ℤ pos (10 ^ (8 - decimals)),
  is.is_steps ∙ ap (λ s. is.steps *ℤ pos s) (step_units decimals few) ∙ regroup is.steps (10 ^ (8 - decimals)),
)

-- units have no more than eight decimals
pub units_are_rounded : (units : ℤ) → IsRounded most_decimals (units *ℤ pos one) (units *ℤ pos one)
units_are_rounded units = record {
  steps = units;
  is_steps = refl;
  nearest = record { near = omega (arith, ints); even = λ half. absurd (omega (arith, ints, half)) };
}

-- ---- One rounded amount, and one nearest rate.

pub one_rounded : (decimals : ℕ) (amount a b : ℤ) → IsRounded decimals amount a → IsRounded decimals amount b → a ≡ b
one_rounded n amount a b first second =
    let same = one_nearest amount (step n) first.steps second.steps (step_positive n) first.nearest second.nearest in
    first.is_steps ∙ ap (λ z. z *ℤ pos (step n)) same ∙ sym second.is_steps

pub one_rate : (units total : ℤ) (a b : ℕ) → IsNearestRate units total a → IsNearestRate units total b → a ≡ b
one_rate units total a b first second =
    let same = one_nearest (total *ℤ pos one) (unsigned_abs units) (pos a) (pos b) (positive units first.some_units) first.nearest second.nearest in
    omega (arith, ints, same)
