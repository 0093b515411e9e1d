-- A rate for each unit from a total for all: it is the quotient, where the division leaves no remainder.
use Rattle.std.proofs.Common.{◌≡◌, ◌≢◌, ℕ, zero, suc, ◌*◌, ◌/◌, ◌%◌, ◌<◌, ℤ, pos, negsuc, ◌*ℤ◌, ◌<ℤ◌, Option, Some, None, refl, sym, ap, ◌∙◌, inl, inr, arith}
use Rattle.std.specs.Prelude.{unsigned_abs, SomeIff, IfSome, nat_eq, nat_lt, not, ◌&&◌, cond}
use Rattle.std.proofs.lemmas.Bool.{and_parts, cases_Bool}
use Rattle.std.proofs.lemmas.Bool.Decides.{nat_tests}
use Rattle.std.proofs.lemmas.Int.{ints}
use Rattle.std.proofs.Math.Nat.{mul-div_cancel_left, mul-mod_right}
use Rattle.lot_num.specs.Amount.{one, rate_limit, IsPerUnit, divides, per_unit}

-- what the units come to at the rate, where the total isn't below zero
pub comes_to : (units : ℤ) (total rate : ℕ) → IsPerUnit units (pos total) rate → unsigned_abs units * rate ≡ total * one
comes_to units total rate per = let exact : pos (unsigned_abs units * rate) ≡ pos total *ℤ pos one = per.exact in cc

-- a total below zero has no rate
pub below_zero : (units total : ℤ) (rate : ℕ) → total <ℤ pos 0 → IsPerUnit units total rate → ⊥
below_zero units (pos n) rate below per = absurd (omega (arith, ints))
below_zero units (negsuc n) rate below per =
    let same : pos (unsigned_abs units * rate) ≡ negsuc n *ℤ pos one = per.exact in
    absurd (omega (arith, ints, same))

-- zero units have no rate
pub zero_units : (units : ℤ) → unsigned_abs units ≡ 0 → units ≡ pos 0
zero_units (pos n) e = ap pos e
zero_units (negsuc n) e = absurd (omega arith)

pub positive : (units total : ℤ) (rate : ℕ) → IsPerUnit units total rate → 0 < unsigned_abs units
positive units total rate per = by (unsigned_abs units) refl
  where
    by : (u : ℕ) → unsigned_abs units ≡ u → 0 < u
    by zero e = absurd (per.some_units (zero_units units e))
    by (suc u) e = omega arith

pub quotient : (u t rate : ℕ) → 0 < u → u * rate ≡ t → (t / u ≡ rate) × (t % u ≡ 0)
quotient u t rate some same = (ap (λ x. x / u) (sym same) ∙ mul-div_cancel_left rate some, ap (λ x. x % u) (sym same) ∙ mul-mod_right u rate)

-- where the total isn't below zero, the rate is the quotient at scale 8, and the division leaves no remainder
pub rate_is : (units total : ℤ) (rate : ℕ) → (total <ℤ pos 0 → ⊥) → IsPerUnit units total rate
    → (0 < unsigned_abs units) × (unsigned_abs total * one / unsigned_abs units ≡ rate) × (unsigned_abs total * one % unsigned_abs units ≡ 0)
rate_is units (negsuc n) rate above per = absurd (above (omega (arith, ints)))
rate_is units (pos n) rate above per =
    let some = positive units (pos n) rate per in
    let same = comes_to units n rate per in
    let parts = quotient (unsigned_abs units) (n * one) rate some same in
    (some, parts.0, parts.1)

-- an option that is some value exactly where a condition holds, where it does
pub some_where : {T : Type 0} (o : Option T) (P : Type 0) (value : T) → SomeIff o P value → P → o ≡ Some value
some_where None P value none holds = absurd (none holds)
some_where (Some x) P value some holds = ap Some some.1

-- ---- The rate as a function of units and total.

abbrev by_tests : ℕ → ℕ → Option ℕ
by_tests u t = cond (divides u t) (Some (t / u)) None

by_tests-some : (u t rate : ℕ) → by_tests u t ≡ Some rate → (u ≢ 0) × (rate < rate_limit) × (u * rate ≡ t)
by_tests-some u t rate e = elim (cases_Bool (divides u t)) [
  | inl holds ↦
      let is : Some (t / u) ≡ Some rate = sym (ap (λ b. cond b (Some (t / u)) None) holds) ∙ e in
      let rate_is : t / u ≡ rate = cc in
      let parts = and_parts (not (nat_eq u 0) && nat_eq (t % u) 0) (nat_lt (t / u) rate_limit) holds in
      let first = and_parts (not (nat_eq u 0)) (nat_eq (t % u) 0) parts.0 in
      (grind (arith, nat_tests, first.0), grind (arith, nat_tests, parts.1), times u t rate (grind (arith, nat_tests, first.0)) rate_is (grind (arith, nat_tests, first.1)))
  | inr fails ↦
      let none : None ≡ Some rate = sym (ap (λ b. cond b (Some (t / u)) None) fails) ∙ e in
      absurd cc
]
  where
    times : (u t rate : ℕ) → 0 < u → t / u ≡ rate → t % u ≡ 0 → u * rate ≡ t
    times u t rate some is rest = ap (λ r. u * r) (sym is) ∙ omega arith

by_tests-every : (u t rate : ℕ) → 0 < u → rate < rate_limit → u * rate ≡ t → by_tests u t ≡ Some rate
by_tests-every u t rate some small same =
    let parts = quotient u t rate some same in
    rw (parts.0, parts.1) (grind (arith, nat_tests))

pub per_unit-some : (units total : ℤ) (rate : ℕ) → per_unit units total ≡ Some rate → IsPerUnit units total rate
unfolding per_unit
per_unit-some units (negsuc n) rate e = absurd cc
per_unit-some units (pos n) rate e =
    let known = by_tests-some (unsigned_abs units) (n * one) rate e in
    record { some_units = λ zero. known.0 (ap unsigned_abs zero); in_range = known.1; exact = ap pos known.2 }

pub per_unit-every : (units total : ℤ) (rate : ℕ) → IsPerUnit units total rate → per_unit units total ≡ Some rate
unfolding per_unit
per_unit-every units (negsuc n) rate per = absurd (below_zero units (negsuc n) rate (omega (arith, ints)) per)
per_unit-every units (pos n) rate per =
    by_tests-every (unsigned_abs units) (n * one) rate (positive units (pos n) rate per) per.in_range (comes_to units n rate per)

-- an option that is a rate for each unit exactly where there is one
pub per_unit_from : (o : Option ℕ) (units total : ℤ) → IfSome o (IsPerUnit units total) → ((rate : ℕ) → IsPerUnit units total rate → o ≡ Some rate) → o ≡ per_unit units total
per_unit_from (Some rate) units total some every = sym (per_unit-every units total rate some)
per_unit_from None units total some every = by (per_unit units total) refl
  where
    by : (o : Option ℕ) → per_unit units total ≡ o → None ≡ o
    by None e = refl
    by (Some rate) e = every rate (per_unit-some units total rate e)
