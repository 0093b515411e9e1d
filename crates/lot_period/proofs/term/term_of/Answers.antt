use Rattle.std.specs.Prelude.{◌≡◌, ◌<ℤ◌, ◌≤ℤ◌}
use Rattle.std.proofs.Common.{arith, subst}
use Rattle.jiff_core.proofs.SignedLemmas.{signed_arith}
use Rattle.jiff_core.specs.Date.{epoch_day}
use Rattle.lot_base.specs.Day.{IsDayNumber}
use Rattle.lot_period.specs.Term.{same_day_next_year}
use Rattle.lot_period.proofs.DateLemmas.{is_last, over, up_to, year_later_is, year_later_past}
use Rattle.lot_period.proofs.term.term_of.Goals as goal

pub returns-then-date-eq-LAST_YEAR : goal.returns-then-date-eq-LAST_YEAR
returns-then-date-eq-LAST_YEAR c =
    let date = c.date_of-date in
    let past = year_later_past c.args.acquired date.result date.ensures.year date.ensures.month date.ensures.day (is_last date.result c.if-date-eq-LAST_YEAR.true) in
    let is_day = subst IsDayNumber c.number-day_sold.ensures.value c.number-day_sold.ensures.bound in
    up_to c.args.acquired c.args.sold (omega (arith, signed_arith, past, is_day.1))

pub returns-then-to_unix_epoch_day-day_sold : goal.returns-then-to_unix_epoch_day-day_sold
returns-then-to_unix_epoch_day-day_sold c =
    let date = c.date_of-date in
    let later = c.constrain-year_later in
    let is : same_day_next_year c.args.acquired ≡ epoch_day later.result =
    year_later_is c.args.acquired date.result later.result date.ensures.year date.ensures.month date.ensures.day later.ensures.year later.ensures.month later.ensures.day in
    over c.args.acquired c.args.sold
    (omega (arith, signed_arith, is, c.to_unix_epoch_day.ensures.value, c.number-day_sold.ensures.value, c.if-to_unix_epoch_day-day_sold.true))

pub returns-else-to_unix_epoch_day-day_sold : goal.returns-else-to_unix_epoch_day-day_sold
returns-else-to_unix_epoch_day-day_sold c =
    let date = c.date_of-date in
    let later = c.constrain-year_later in
    let is : same_day_next_year c.args.acquired ≡ epoch_day later.result =
    year_later_is c.args.acquired date.result later.result date.ensures.year date.ensures.month date.ensures.day later.ensures.year later.ensures.month later.ensures.day in
    up_to c.args.acquired c.args.sold
    (omega (arith, signed_arith, is, c.to_unix_epoch_day.ensures.value, c.number-day_sold.ensures.value, c.if-to_unix_epoch_day-day_sold.false))
