-- The year, month and day of a day number.
use Rattle.std.proofs.Common.{◌≡◌, ℕ, zero, suc, ◌<◌, ◌≤◌, inl, inr, Bool, true, false, refl, sym, arith, rules, ℤ, pos, negsuc, ◌<ℤ◌, ◌≤ℤ◌}
use Rattle.std.specs.Prelude.{int_le}
use Rattle.std.proofs.lemmas.Bool.{cases_order}
use Rattle.std.proofs.lemmas.Int.{ints, by_lt_z}
use Rattle.jiff_core.specs.Calendar.{day_count, days_from_civil, IsCivilDate}
use Rattle.jiff_core.specs.Date.{epoch_day}
use Rattle.jiff_core.specs.declared.civil.date.Date.{Date}
use Rattle.jiff_core.proofs.SignedLemmas.{signed_arith}
use Rattle.jiff_core.proofs.CalendarLemmas.{days_from_civil-day_count, days_in_month_bounds, day_count-day_of_year, day_count-lt_year, day_count-lt_month, day_count-day, day_count_bounds}
use Rattle.jiff_core.proofs.MarchLemmas.{day_count-early}
use Rattle.jiff_core.proofs.DateLemmas.{civil}
use Rattle.jiff.specs.Words.{date_text as printed_date}
use Rattle.lot_base.specs.Day.{IsDayNumber, first_day, last_year, count_to, year_of, month_of, day_of, date_text, day_text}

-- ---- how many numbers pass

-- where the first k numbers pass and no later one does, so many pass
pub count_to-is : (p : ℕ → Bool) (n k : ℕ) → k ≤ n → ((i : ℕ) → 1 ≤ i → i ≤ k → p i ≡ true)
    → ((i : ℕ) → k < i → i ≤ n → p i ≡ false) → count_to p n ≡ k
unfolding count_to
count_to-is p zero k le begun ahead = omega arith
count_to-is p (suc n) k le begun ahead =
    elim (cases_order k (suc n)) [
      | inr (inl lt) ↦
          let here : p (suc n) ≡ false = ahead (suc n) lt (omega arith) in
          let below = count_to-is p n k (omega arith) begun (λ i low high. ahead i low (omega arith)) in
          rw here (omega arith)
      | inl same ↦
          let here : p (suc n) ≡ true = begun (suc n) (omega arith) (omega arith) in
          let below = count_to-is p n n (omega arith) (λ i low high. begun i low (omega arith)) (λ i low high. absurd (omega arith)) in
          rw here (omega arith)
      | inr (inr gt) ↦ absurd (omega arith)
    ]

-- ---- what has begun by a date, and what is still ahead

le_is_true : (a b : ℤ) → a ≤ℤ b → int_le a b ≡ true
le_is_true a b h = grind (arith, ints)

lt_is_false : (a b : ℤ) → b <ℤ a → int_le a b ≡ false
lt_is_false a b h = grind (arith, ints)

year_begun : (y m d i : ℕ) → IsCivilDate (pos y) m d → i ≤ y → days_from_civil (pos i) 1 1 ≤ℤ days_from_civil (pos y) m d
year_begun y m d i h le =
    elim (cases_order i y) [
      | inr (inl lt) ↦
          let first : IsCivilDate (pos i) 1 1 = ((omega (arith, signed_arith, h.0.0, h.0.1), omega (arith, signed_arith, h.0.1)), (omega arith, omega arith), (omega arith, omega arith)) in
          omega (arith, signed_arith, days_from_civil-day_count, day_count-lt_year (pos i) 1 1 (pos y) m d first h.2.0 (omega (arith, signed_arith)))
      | inl same ↦ rw same (omega (arith, signed_arith, days_from_civil-day_count, day_count-day_of_year (pos y) m d h.2.0, h.2.0))
      | inr (inr gt) ↦ absurd (omega arith)
    ]

year_ahead : (y m d i : ℕ) → IsCivilDate (pos y) m d → y < i → days_from_civil (pos y) m d <ℤ days_from_civil (pos i) 1 1
year_ahead y m d i h lt =
    omega (arith, signed_arith, days_from_civil-day_count, day_count-lt_year (pos y) m d (pos i) 1 1 h (omega arith) (omega (arith, signed_arith)))

month_begun : (y : ℤ) (m d i : ℕ) → IsCivilDate y m d → 1 ≤ i → i ≤ m → days_from_civil y i 1 ≤ℤ days_from_civil y m d
month_begun y m d i h low le =
    elim (cases_order i m) [
      | inr (inl lt) ↦
          let first : IsCivilDate y i 1 = (h.0, (low, omega (arith, h.1.1)), (omega arith, omega (arith, days_in_month_bounds y i))) in
          omega (arith, signed_arith, days_from_civil-day_count, day_count-lt_month y i 1 m d first h.2.0 lt)
      | inl same ↦ rw same (omega (arith, signed_arith, days_from_civil-day_count, day_count-day y m d 1 h.2.0 (omega arith), h.2.0))
      | inr (inr gt) ↦ absurd (omega arith)
    ]

month_ahead : (y : ℤ) (m d i : ℕ) → IsCivilDate y m d → m < i → days_from_civil y m d <ℤ days_from_civil y i 1
month_ahead y m d i h lt =
    omega (arith, signed_arith, days_from_civil-day_count, day_count-lt_month y m d i 1 h (omega arith) lt)

day_begun : (y : ℤ) (m d i : ℕ) → IsCivilDate y m d → 1 ≤ i → i ≤ d → days_from_civil y m i ≤ℤ days_from_civil y m d
day_begun y m d i h low le = omega (arith, signed_arith, days_from_civil-day_count, day_count-day y m d i h.2.0 low)

day_ahead : (y : ℤ) (m d i : ℕ) → IsCivilDate y m d → d < i → days_from_civil y m d <ℤ days_from_civil y m i
day_ahead y m d i h lt = omega (arith, signed_arith, days_from_civil-day_count, day_count-day y m d i h.2.0 (omega arith))

-- ---- the parts of a day number

pub year_of-date : (y m d : ℕ) → IsCivilDate (pos y) m d → year_of (days_from_civil (pos y) m d) ≡ y
unfolding year_of
year_of-date y m d h =
    count_to-is (λ i. int_le (days_from_civil (pos i) 1 1) (days_from_civil (pos y) m d)) last_year y (omega (arith, signed_arith, h.0.1))
    (λ i low high. le_is_true _ _ (year_begun y m d i h high))
    (λ i low high. lt_is_false _ _ (year_ahead y m d i h low))

pub month_of-date : (y m d : ℕ) → IsCivilDate (pos y) m d → month_of (days_from_civil (pos y) m d) ≡ m
unfolding month_of
month_of-date y m d h =
    rw (year_of-date y m d h)
    (count_to-is (λ i. int_le (days_from_civil (pos y) i 1) (days_from_civil (pos y) m d)) 12 m h.1.1
    (λ i low high. le_is_true _ _ (month_begun (pos y) m d i h low high))
    (λ i low high. lt_is_false _ _ (month_ahead (pos y) m d i h low)))

pub day_of-date : (y m d : ℕ) → IsCivilDate (pos y) m d → day_of (days_from_civil (pos y) m d) ≡ d
unfolding day_of
day_of-date y m d h =
    rw (year_of-date y m d h, month_of-date y m d h)
    (count_to-is (λ i. int_le (days_from_civil (pos y) m i) (days_from_civil (pos y) m d)) 31 d (omega (arith, h.2.1, days_in_month_bounds (pos y) m))
    (λ i low high. le_is_true _ _ (day_begun (pos y) m d i h low high))
    (λ i low high. lt_is_false _ _ (day_ahead (pos y) m d i h low)))

pub day_text-date : (y m d : ℕ) → IsCivilDate (pos y) m d → day_text (days_from_civil (pos y) m d) ≡ date_text y m d
unfolding day_text
day_text-date y m d h = rw (year_of-date y m d h, month_of-date y m d h, day_of-date y m d h)

-- ---- the range

pub first_count : day_count (pos 1) 1 1 ≡ 3_652_791
first_count = day_count-early (pos 1) 10000 1 1 refl (omega arith) (omega arith) (omega arith)

-- a date of the years 1 to 9999 has a number of theirs
pub date-in_range : (y : ℤ) (m d : ℕ) → IsCivilDate y m d → pos 1 ≤ℤ y → IsDayNumber (days_from_civil y m d)
date-in_range y m d h low =
    let first : IsCivilDate (pos 1) 1 1 = search rules in
    let bounds = day_count_bounds y m d h in
    let begun : 3_652_791 ≤ day_count y m d = by_lt_z (pos 1) y
    (λ lt. omega (arith, first_count, day_count-lt_year (pos 1) 1 1 y m d first h.2.0 lt))
    (λ le. let same : y ≡ pos 1 = omega (arith, signed_arith) in
    rw same (omega (arith, first_count, day_count-day_of_year (pos 1) m d h.2.0, h.2.0))) in
    omega (arith, signed_arith, days_from_civil-day_count)

-- and a date before them hasn't
pub date-before_range : (y : ℤ) (m d : ℕ) → IsCivilDate y m d → y <ℤ pos 1 → days_from_civil y m d <ℤ first_day
date-before_range y m d h low =
    omega (arith, signed_arith, days_from_civil-day_count, first_count, day_count-lt_year y m d (pos 1) 1 1 h (omega arith) low)

-- ---- the text that `jiff` prints

natural : (z : ℤ) → pos 1 ≤ℤ z → (y : ℕ) × (z ≡ pos y)
natural (pos y) h = (y, refl)
natural (negsuc y) h = absurd (omega (arith, signed_arith))

pub date_text-day_text : (date : Date) → pos 1 ≤ℤ date.year → printed_date date ≡ day_text (epoch_day date)
date_text-day_text date low =
    let year = natural date.year low in
    let same = rw year.1 at (civil date) in
    rw year.1 (sym (day_text-date year.0 date.month date.day same))
