-- A later day counts in no earlier month.
use Rattle.std.specs.Prelude.{◌≡◌, ℕ, zero, suc, ◌+◌, ◌-◌, ◌*◌, ◌≤◌, ◌<◌, Bool, true, false, if◌then◌else◌, ℤ, pos, ◌≤ℤ◌, int_le, int_lt, nat_le, Option, None, Some}
use Rattle.std.proofs.Common.{refl, sym, ap, ◌∙◌, arith, inl, inr, subst}
use Rattle.std.proofs.lemmas.Bool.{cases_Bool, cases_order, true≢false}
use Rattle.std.proofs.lemmas.Bool.Decides.{nat_tests}
use Rattle.std.proofs.lemmas.Int.{ints}
use Rattle.jiff_core.specs.Calendar.{days_from_civil}
use Rattle.lot_base.specs.Day.{count_to, last_year, month_of, year_of}
use Rattle.lot_months.specs.Range.{counts_at, is_by, months_before, place_in}
use Rattle.lot_months.specs.declared.range.MonthRange.{MonthRange}

one_more : (p q : Bool) (n m : ℕ) → n ≤ m → (p ≡ true → q ≡ true) → n + (if p then 1 else 0) ≤ m + (if q then 1 else 0)
one_more true true n m le so = omega arith
one_more true false n m le so = absurd (true≢false (sym (so refl)))
one_more false true n m le so = omega arith
one_more false false n m le so = omega arith

-- where what passes one test passes another, no more pass it
counts : (p q : ℕ → Bool) (n : ℕ) → ((i : ℕ) → p i ≡ true → q i ≡ true) → count_to p n ≤ count_to q n
unfolding count_to
counts p q zero so = omega arith
counts p q (suc n) so = one_more (p (suc n)) (q (suc n)) _ _ (counts p q n so) (so (suc n))

one_at_most : (b : Bool) (n m : ℕ) → n ≤ m → n + (if b then 1 else 0) ≤ suc m
one_at_most true n m le = omega arith
one_at_most false n m le = omega arith

few : (p : ℕ → Bool) (n : ℕ) → count_to p n ≤ n
unfolding count_to
few p zero = omega arith
few p (suc n) = one_at_most (p (suc n)) (count_to p n) n (few p n)

begun : (day first later : ℤ) → first ≤ℤ later → int_le day first ≡ true → int_le day later ≡ true
begun day first later le is = grind (arith, ints)

years : (first later : ℤ) → first ≤ℤ later → year_of first ≤ year_of later
unfolding year_of
years first later le =
    counts (λ year. int_le (days_from_civil (pos year) 1 1) first) (λ year. int_le (days_from_civil (pos year) 1 1) later) last_year
    (λ year is. begun (days_from_civil (pos year) 1 1) first later le is)

months : (first later : ℤ) → first ≤ℤ later → year_of first ≡ year_of later → month_of first ≤ month_of later
unfolding month_of
months first later le same =
    counts (λ month. int_le (days_from_civil (pos (year_of first)) month 1) first) (λ month. int_le (days_from_civil (pos (year_of later)) month 1) later) 12
    (λ month is. begun (days_from_civil (pos (year_of later)) month 1) first later le
    (subst (λ year. int_le (days_from_civil (pos year) month 1) first ≡ true) same is))

months_few : (day : ℤ) → month_of day ≤ 12
unfolding month_of
months_few day = few (λ month. int_le (days_from_civil (pos (year_of day)) month 1) day) 12

years_few : (day : ℤ) → year_of day ≤ last_year
unfolding year_of
years_few day = few (λ year. int_le (days_from_civil (pos year) 1 1) day) last_year

pub months_small : (day : ℤ) → months_before day ≤ 120_000
months_small day = omega (arith, years_few day, months_few day)

ordered : (y z m n : ℕ) → y ≤ z → m ≤ 12 → (y ≡ z → m ≤ n) → 12 * y + (m - 1) ≤ 12 * z + (n - 1)
ordered y z m n le small same = elim (cases_order y z) [
  | inl is ↦ omega (arith, is, same is)
  | inr (inl less) ↦ omega (arith, less, small)
  | inr (inr more) ↦ absurd (omega (arith, more, le))
]

before : (first later : ℤ) → first ≤ℤ later → months_before first ≤ months_before later
before first later le =
    ordered (year_of first) (year_of later) (month_of first) (month_of later) (years first later le) (months_few first) (months first later le)

behind : (last first later : ℤ) → first ≤ℤ later → int_lt last later ≡ false → int_lt last first ≡ false
behind last first later le not = grind (arith, ints)

at_first : (at first m n : ℕ) → m ≤ n → nat_le (n - first) at ≡ true → nat_le (m - first) at ≡ true
at_first at first m n le is = grind (arith, nat_tests)

-- where a later day counts, an earlier one does
pub counts_before : (range : MonthRange) (at : ℕ) (first later : ℤ) → first ≤ℤ later → counts_at range at later ≡ true
    → counts_at range at first ≡ true
counts_before range at first later le is = elim (cases_Bool (int_lt range.last later)) [
  | inl late ↦ absurd (true≢false (sym (rw (late) at is)))
  | inr early ↦
      let later_is : nat_le (months_before later - range.first.0) at ≡ true = rw (early) at is in
      rw (behind range.last first later le early) (at_first at range.first.0 (months_before first) (months_before later) (before first later le) later_is)
]
