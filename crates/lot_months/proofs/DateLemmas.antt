-- The month of a day, and of its date.
use Rattle.std.specs.Prelude.{◌≡◌, ℕ, ◌+◌, ◌-◌, ◌*◌, ◌≤◌, ℤ, pos, negsuc, ◌+ℤ◌, ◌≤ℤ◌, ◌<ℤ◌, nat_abs}
use Rattle.std.proofs.Common.{FitsSigned, Fits, refl, sym, ap, ◌∙◌, arith, of_z, to_z, w32}
use Rattle.std.specs.Int.{w16}
use Rattle.std.proofs.lemmas.Int.{by_lt_z, ints, to_z-of_z}
use Rattle.jiff_core.specs.Calendar.{IsCivilDate, days_from_civil}
use Rattle.jiff_core.specs.Date.{epoch_day}
use Rattle.jiff_core.specs.declared.civil.date.Date.{Date}
use Rattle.jiff_core.proofs.DateLemmas.{civil}
use Rattle.jiff_core.proofs.SignedLemmas.{signed_arith}
use Rattle.lot_base.specs.Day.{IsDayNumber, month_of, year_of}
use Rattle.lot_base.proofs.DayLemmas.{date-before_range, month_of-date, year_of-date}
use Rattle.lot_months.specs.Range.{months_before}

natural : (z : ℤ) → pos 1 ≤ℤ z → (y : ℕ) × (z ≡ pos y)
natural (pos y) h = (y, refl)
natural (negsuc y) h = absurd (omega (arith, signed_arith))

-- the year and month of a date are those of its number
pub parts_of-date : (date : Date) (n : ℤ) → IsDayNumber n → epoch_day date ≡ n → (date.year ≡ pos (year_of n)) × (date.month ≡ month_of n)
parts_of-date date n is number =
    let low : pos 1 ≤ℤ date.year = by_lt_z date.year (pos 1)
    (λ lt. absurd (omega (arith, signed_arith, number, is.0, date-before_range date.year date.month date.day (civil date) lt)))
    (λ le. le) in
    let year = natural date.year low in
    let same : IsCivilDate (pos year.0) date.month date.day = rw year.1 at (civil date) in
    let days : days_from_civil (pos year.0) date.month date.day ≡ n = ap (λ y. days_from_civil y date.month date.day) (sym year.1) ∙ number in (
      year.1 ∙ ap pos (sym (year_of-date year.0 date.month date.day same) ∙ ap year_of days),
      sym (month_of-date year.0 date.month date.day same) ∙ ap month_of days,
    )

-- the year of a date fits
pub year_is : (date : Date) (year : ℕ) → date.year ≡ pos year → to_z w16 (of_z w16 date.year) ≡ pos year
year_is date year is =
    let fits : FitsSigned w16 date.year = omega (arith, signed_arith, date.year_in) in
    to_z-of_z w16 date.year fits ∙ is

pub small_year : (date : Date) (year : ℕ) → date.year ≡ pos year → year ≤ 9999
small_year date year is = omega (arith, signed_arith, date.year_in, is)
