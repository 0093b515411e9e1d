-- The parts of a day, and the same day of the next year.
use Rattle.std.specs.Prelude.{◌≡◌, ◌≢◌, ℕ, ◌+◌, ◌≤◌, ◌<◌, min, Bool, true, false, ℤ, pos, negsuc, ◌+ℤ◌, ◌≤ℤ◌, ◌<ℤ◌, int_lt}
use Rattle.std.proofs.Common.{FitsSigned, refl, sym, ap, ◌∙◌, arith, of_z, to_z}
use Rattle.std.specs.Int.{w16}
use Rattle.std.proofs.lemmas.Int.{by_lt_z, ints, to_z-of_z, to_z_pos}
use Rattle.jiff_core.specs.Calendar.{IsCivilDate, day_count, days_from_civil, days_in_month}
use Rattle.jiff_core.specs.Date.{epoch_day}
use Rattle.jiff_core.specs.declared.civil.date.Date.{Date}
use Rattle.jiff_core.proofs.CalendarLemmas.{day_count-lt_year, days_from_civil-day_count, days_in_month_bounds}
use Rattle.jiff_core.proofs.DateLemmas.{civil, days_from_civil-max}
use Rattle.jiff_core.proofs.SignedLemmas.{signed_arith}
use Rattle.lot_base.specs.Day.{IsDay, IsDayNumber, day_number, day_of, last_day, last_year, month_of, year_of}
use Rattle.lot_base.proofs.DateLemmas.{IsDay-civil}
use Rattle.lot_base.proofs.DayLemmas.{date-before_range, day_of-date, month_of-date, year_of-date}
use Rattle.lot_period.specs.Term.{HasSameDay, LeapDayIsCutBack, same_day_next_year, term_of}
use Rattle.lot_period.specs.declared.term.Term.TheVariants.{OverAYear, UpToAYear}

natural : (z : ℤ) → pos 1 ≤ℤ z → (y : ℕ) × (z ≡ pos y)
natural (pos y) h = (y, refl)
natural (negsuc y) h = absurd (omega (arith, signed_arith))

-- the year, month and day of a date are those of its number
pub parts_of-date : (date : Date) (n : ℤ) → IsDayNumber n → epoch_day date ≡ n
    → (date.year ≡ pos (year_of n)) × (date.month ≡ month_of n) × (date.day ≡ day_of n)
parts_of-date date n is number =
    let low : pos 1 ≤ℤ date.year = by_lt_z date.year (pos 1)
    (λ lt. absurd (omega (arith, signed_arith, number, is.0, date-before_range date.year date.month date.day (civil date) lt)))
    (λ le. le) in
    let year = natural date.year low in
    let same : IsCivilDate (pos year.0) date.month date.day = rw year.1 at (civil date) in
    let days : days_from_civil (pos year.0) date.month date.day ≡ n = ap (λ y. days_from_civil y date.month date.day) (sym year.1) ∙ number in (
      year.1 ∙ ap pos (sym (year_of-date year.0 date.month date.day same) ∙ ap year_of days),
      sym (month_of-date year.0 date.month date.day same) ∙ ap month_of days,
      sym (day_of-date year.0 date.month date.day same) ∙ ap day_of days,
    )

-- the next year, as 16 bits have it
abbrev next_of : ℤ → ℤ
next_of year = to_z w16 (of_z w16 (to_z w16 (of_z w16 year) +ℤ pos 1))

next_is : (date : Date) → next_of date.year ≡ date.year +ℤ pos 1
next_is date =
    let fits : FitsSigned w16 date.year = omega (arith, signed_arith, date.year_in) in
    let next_fits : FitsSigned w16 (date.year +ℤ pos 1) = omega (arith, signed_arith, date.year_in) in
    ap (λ y. to_z w16 (of_z w16 (y +ℤ pos 1))) (to_z-of_z w16 date.year fits) ∙ to_z-of_z w16 (date.year +ℤ pos 1) next_fits

-- a date of the next year with the same month, and the same day or the month's last
pub year_later_is : (n : ℤ) (date later : Date) → date.year ≡ pos (year_of n) → date.month ≡ month_of n → date.day ≡ day_of n
    → later.year ≡ next_of date.year → later.month ≡ date.month → later.day ≡ min date.day (days_in_month (next_of date.year) date.month)
    → same_day_next_year n ≡ epoch_day later
unfolding same_day_next_year
year_later_is n date later year month day next same cut =
    let after : next_of date.year ≡ pos (year_of n + 1) = next_is date ∙ ap (λ y. y +ℤ pos 1) year in
    (λ i. days_from_civil (sym after i) (sym month i) (min (sym day i) (days_in_month (sym after i) (sym month i))))
    ∙ (λ i. days_from_civil (sym next i) (sym same i) (sym cut i))

-- a year that is the last one in 16 bits is the last one
pub is_last : (date : Date) → of_z w16 date.year ≡ last_year → date.year ≡ pos last_year
is_last date is =
    let fits : FitsSigned w16 date.year = omega (arith, signed_arith, date.year_in) in
    sym (to_z-of_z w16 date.year fits) ∙ ap (to_z w16) is ∙ to_z_pos w16 last_year (omega arith)

-- the same day of a year past the last is past the last day
pub year_later_past : (n : ℤ) (date : Date) → date.year ≡ pos (year_of n) → date.month ≡ month_of n → date.day ≡ day_of n
    → date.year ≡ pos last_year → last_day <ℤ same_day_next_year n
unfolding same_day_next_year
year_later_past n date year month day last =
    let day_later = min (day_of n) (days_in_month (pos (year_of n + 1)) (month_of n)) in
    let next : pos (year_of n + 1) ≡ pos 10_000 = ap (λ y. y +ℤ pos 1) (sym year ∙ last) in
    let some : 1 ≤ day_later = omega (arith, sym day, date.day_in.0, days_in_month_bounds (pos (year_of n + 1)) (month_of n)) in
    let end : IsCivilDate (pos 9_999) 12 31 = ((omega (arith, signed_arith), omega (arith, signed_arith)), (omega arith, omega arith), (omega arith, omega arith)) in
    let later : day_count (pos 9_999) 12 31 < day_count (pos (year_of n + 1)) (month_of n) day_later =
    day_count-lt_year (pos 9_999) 12 31 (pos (year_of n + 1)) (month_of n) day_later end some (omega (arith, signed_arith, next)) in
    omega (arith, signed_arith, days_from_civil-day_count, days_from_civil-max, later)

-- ---- terms

is_before : (a b : ℤ) → a <ℤ b → int_lt a b ≡ true
is_before a b h = grind (arith, ints)

not_before : (a b : ℤ) → b ≤ℤ a → int_lt a b ≡ false
not_before a b h = grind (arith, ints)

pub over : (acquired sold : ℤ) → same_day_next_year acquired <ℤ sold → OverAYear ≡ term_of acquired sold
over acquired sold is = rw (is_before (same_day_next_year acquired) sold is) refl

pub up_to : (acquired sold : ℤ) → sold ≤ℤ same_day_next_year acquired → UpToAYear ≡ term_of acquired sold
up_to acquired sold is = rw (not_before (same_day_next_year acquired) sold is) refl

-- ---- laws

pub same_day : HasSameDay
unfolding same_day_next_year
same_day year month day is next =
    let date = IsDay-civil year month day is in
    let later = IsDay-civil (year + 1) month day next in
    let whole : min day (days_in_month (pos (year + 1)) month) ≡ day = omega (arith, later.2.1) in
    rw (year_of-date year month day date, month_of-date year month day date, day_of-date year month day date, whole)

pub leap_day : LeapDayIsCutBack
unfolding same_day_next_year
leap_day year is =
    let date = IsDay-civil year 2 29 is in
    let short : min 29 (days_in_month (pos (year + 1)) 2) ≡ 28 = grind (arith, date.2.1) in
    rw (year_of-date year 2 29 date, month_of-date year 2 29 date, day_of-date year 2 29 date, short)
