-- Every day number is that of a date.
use Rattle.std.proofs.Common.{◌+◌, ◌≡◌, ◌-◌, ◌-ℤ◌, ℕ, zero, suc, ◌<◌, ◌≤◌, inl, inr, arith, rules, ℤ, pos, ◌<ℤ◌, ◌≤ℤ◌, ◌+ℤ◌}
use Rattle.std.proofs.lemmas.Bool.{cases_order}
use Rattle.jiff_core.specs.Calendar.{days_from_civil, days_in_month, IsCivilDate}
use Rattle.jiff_core.proofs.SignedLemmas.{signed_arith}
use Rattle.jiff_core.proofs.CalendarLemmas.{days_from_civil-day_count, days_in_month_bounds}
use Rattle.jiff_core.proofs.DateLemmas.{days_from_civil-day, days_from_civil-next_month, days_from_civil-next_year, days_from_civil-max}
use borrow.Author.Differences.{up, down}
use Rattle.lot_base.specs.Day.{IsDayNumber, last_day, last_year}
use Rattle.lot_base.proofs.DayLemmas.{first_count}

-- a date of the years 1 to 9999 with the number n
pub record DateOf (n : ℤ) : Type 0 where
  pub year : ℕ
  pub month : ℕ
  pub day : ℕ
  pub civil_date : IsCivilDate (pos year) month day
  pub low : 1 ≤ year
  pub number : days_from_civil (pos year) month day ≡ n

-- 31 December comes last in the last year alone
year_below : (y : ℕ) (n : ℤ) → days_from_civil (pos y) 12 31 ≡ n → n <ℤ last_day → y ≤ last_year → y < last_year
year_below y n number lt le =
    elim (cases_order y last_year) [
      | inr (inl below) ↦ below
      | inl same ↦
          let latest = rw same at number in
          absurd (omega (arith, signed_arith, days_from_civil-max, latest, lt))
      | inr (inr gt) ↦ absurd (omega arith)
    ]

-- the day after a date
next_day : (n next : ℤ) → next ≡ n +ℤ pos 1 → next ≤ℤ last_day → DateOf n → DateOf next
next_day n next e high date =
    let y = date.year in
    let m = date.month in
    let d = date.day in
    let is = date.civil_date in
    elim (cases_order d (days_in_month (pos y) m)) [
      | inr (inl lt) ↦ record {
        year = y;
        month = m;
        day = d + 1;
        civil_date = (is.0, is.1, (omega arith, omega arith));
        low = date.low;
        number = omega (arith, signed_arith, e, date.number, days_from_civil-day (pos y) m d (d + 1) is.2.0 (omega arith));
      }
      | inl last ↦ elim (cases_order m 12) [
        | inr (inl lt) ↦ record {
          year = y;
          month = m + 1;
          day = 1;
          civil_date = (is.0, (omega arith, omega arith), (omega arith, omega (arith, days_in_month_bounds (pos y) (m + 1))));
          low = date.low;
          number = omega (arith, signed_arith, e, date.number, days_from_civil-next_month (pos y) m d is.1.0 last);
        }
        | inl december ↦
            let last_day : d ≡ 31 = rw december at last in
            let number : days_from_civil (pos y) 12 31 ≡ n = rw (december, last_day) at date.number in
            let below : y < last_year = year_below y n number (omega (arith, signed_arith, e, high)) (omega (arith, signed_arith, is.0)) in
            record {
              year = y + 1;
              month = 1;
              day = 1;
              civil_date = ((omega (arith, signed_arith), omega (arith, signed_arith)), (omega arith, omega arith), (omega arith, omega arith));
              low = omega arith;
              number = omega (arith, signed_arith, e, number, days_from_civil-next_year (pos y) (pos (y + 1)) (omega (arith, signed_arith)) (omega (arith, signed_arith)));
            }
        | inr (inr gt) ↦ absurd (omega (arith, is.1))
      ]
      | inr (inr gt) ↦ absurd (omega (arith, is.2))
    ]

from_first : (k : ℕ) (n : ℤ) → k ≤ 3_652_058 → n +ℤ pos 719_162 ≡ pos k → DateOf n
from_first zero n h e = record {
  year = 1;
  month = 1;
  day = 1;
  civil_date = search rules;
  low = omega arith;
  number = omega (arith, signed_arith, e, days_from_civil-day_count, first_count);
}
from_first (suc k) n h e =
    next_day (n -ℤ pos 1) n (omega (arith, signed_arith)) (omega (arith, signed_arith))
    (from_first k (n -ℤ pos 1) (omega arith) (omega (arith, signed_arith)))

pub date_of-number : (n : ℤ) → IsDayNumber n → DateOf n
date_of-number n h = from_first (up n + 719_162 - down n) n (omega (arith, signed_arith, h.0, h.1)) (omega (arith, signed_arith, h.0, h.1))
