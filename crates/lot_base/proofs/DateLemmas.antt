-- The dates that the calendar has, as a test and as a fact.
use Rattle.std.proofs.Common.{◌≡◌, Some, ℕ, ◌≤◌, true, arith, ℤ, pos, neg_ℤ, ◌≤ℤ◌}
use Rattle.std.specs.Prelude.{nat_le, ◌&&◌, OkIff, Result, Ok, Err}
use Rattle.std.specs.Result.{result_ok}
use Rattle.std.proofs.lemmas.Bool.{and_parts, false_from_ne_true, le-leb, leb-true}
use Rattle.jiff_core.specs.Calendar.{days_from_civil, days_in_month, IsCivilDate}
use Rattle.jiff_core.proofs.SignedLemmas.{signed_arith}
use Rattle.lot_base.specs.Day.{IsDay, day_number, last_year, has_date, date_number}

has_date-yes : (y m d : ℕ) → IsDay (pos y) (pos m) (pos d) → has_date y m d ≡ true
has_date-yes y m d h =
    let year : (1 ≤ y) × (y ≤ last_year) = (omega (arith, signed_arith, h.0), omega (arith, signed_arith, h.1.0.1)) in
    let month : (1 ≤ m) × (m ≤ 12) = (omega (arith, signed_arith, h.1.1.0), omega (arith, signed_arith, h.1.1.1)) in
    let day : (1 ≤ d) × (d ≤ days_in_month (pos y) m) = (omega (arith, signed_arith, h.1.2.0), omega (arith, signed_arith, h.1.2.1)) in
    rw (le-leb 1 y year.0, le-leb y last_year year.1, le-leb 1 m month.0, le-leb m 12 month.1, le-leb 1 d day.0, le-leb d (days_in_month (pos y) m) day.1)

between : (low n high : ℕ) → (nat_le low n && nat_le n high) ≡ true → (low ≤ n) × (n ≤ high)
between low n high h =
    let parts = and_parts (nat_le low n) (nat_le n high) h in
    (leb-true low n parts.0, leb-true n high parts.1)

-- its year, month and day lie where they may
date_parts : (y m d : ℕ) → has_date y m d ≡ true
    → ((1 ≤ y) × (y ≤ last_year)) × ((1 ≤ m) × (m ≤ 12)) × ((1 ≤ d) × (d ≤ days_in_month (pos y) m))
date_parts y m d h =
    let days = and_parts ((nat_le 1 y && nat_le y last_year) && (nat_le 1 m && nat_le m 12)) (nat_le 1 d && nat_le d (days_in_month (pos y) m)) h in
    let months = and_parts (nat_le 1 y && nat_le y last_year) (nat_le 1 m && nat_le m 12) days.0 in
    (between 1 y last_year months.0, between 1 m 12 months.1, between 1 d (days_in_month (pos y) m) days.1)

has_date-is : (y m d : ℕ) → has_date y m d ≡ true → IsDay (pos y) (pos m) (pos d)
has_date-is y m d h =
    let parts = date_parts y m d h in
    let year : (neg_ℤ (pos last_year) ≤ℤ pos y) × (pos y ≤ℤ pos last_year) = (omega (arith, signed_arith), omega (arith, signed_arith, parts.0)) in
    let month : (pos 1 ≤ℤ pos m) × (pos m ≤ℤ pos 12) = (omega (arith, signed_arith, parts.1), omega (arith, signed_arith, parts.1)) in
    let day : (pos 1 ≤ℤ pos d) × (pos d ≤ℤ pos (days_in_month (pos y) m)) = (omega (arith, signed_arith, parts.2), omega (arith, signed_arith, parts.2)) in
    (omega (arith, signed_arith, parts.0), (year, month, day))

-- a day of the calendar, in plain numbers
pub IsDay-civil : (y m d : ℕ) → IsDay (pos y) (pos m) (pos d) → IsCivilDate (pos y) m d
IsDay-civil y m d h =
    (h.1.0, (omega (arith, signed_arith, h.1.1), omega (arith, signed_arith, h.1.1)), (omega (arith, signed_arith, h.1.2), omega (arith, signed_arith, h.1.2)))

pub date_number-result : {E : Type 0} (r : Result ℤ E) (y m d : ℕ) → OkIff r (IsDay (pos y) (pos m) (pos d)) (day_number (pos y) (pos m) (pos d))
    → result_ok r ≡ date_number (y, m, d)
date_number-result (Ok n) y m d h = let yes = has_date-yes y m d h.0 in rw (yes, h.1)
date_number-result (Err e) y m d h =
    let no = false_from_ne_true (has_date y m d) (λ yes. h (has_date-is y m d yes)) in rw no

pub IsDay-from_civil : (y m d : ℕ) → 1 ≤ y → IsCivilDate (pos y) m d → IsDay (pos y) (pos m) (pos d)
IsDay-from_civil y m d low h =
    (omega (arith, signed_arith), (h.0, (omega (arith, signed_arith, h.1), omega (arith, signed_arith, h.1)), (omega (arith, signed_arith, h.2), omega (arith, signed_arith, h.2))))

pub date_number-civil : (y m d : ℕ) → 1 ≤ y → IsCivilDate (pos y) m d → date_number (y, m, d) ≡ Some (days_from_civil (pos y) m d)
date_number-civil y m d low h = rw (has_date-yes y m d (IsDay-from_civil y m d low h))
