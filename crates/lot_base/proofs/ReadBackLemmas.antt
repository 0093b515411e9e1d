-- The text of a day names the day.
use Rattle.std.proofs.Common.{◌≡◌, ◌<◌, ℤ, pos, Some, arith}
use Rattle.jiff_core.proofs.CalendarLemmas.{days_in_month_bounds}
use Rattle.jiff_core.proofs.SignedLemmas.{signed_arith}
use Rattle.lot_base.specs.Day.{IsDayNumber, day_text, named_day}
use Rattle.lot_base.proofs.DateLemmas.{date_number-civil}
use Rattle.lot_base.proofs.DateOfLemmas.{date_of-number}
use Rattle.lot_base.proofs.DayLemmas.{day_text-date}
use Rattle.lot_base.proofs.DayTextLemmas.{named_date-date_text}

pub named_day-day_text : (n : ℤ) → IsDayNumber n → named_day (day_text n) ≡ Some n
unfolding named_day
named_day-day_text n is =
    let date = date_of-number n is in
    let y = date.year in
    let m = date.month in
    let d = date.day in
    let civil = date.civil_date in
    let text = day_text-date y m d civil in
    let small_year : y < 10_000 = omega (arith, signed_arith, civil.0) in
    let small_month : m < 100 = omega (arith, civil.1) in
    let small_day : d < 100 = omega (arith, civil.2, days_in_month_bounds (pos y) m) in
    let named = named_date-date_text y m d small_year small_month small_day in
    rw (← date.number, text, named) (date_number-civil y m d date.low civil)
