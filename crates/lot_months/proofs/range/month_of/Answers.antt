use Rattle.std.proofs.Common.{◌≡◌, ◌∙◌, ap, arith, pos, refl, rules, subst, sym}
use Rattle.jiff_core.specs.Date.{epoch_day}
use Rattle.lot_base.specs.Day.{IsDayNumber, year_of}
use Rattle.lot_months.proofs.DateLemmas.{parts_of-date, small_year, year_is}
use Rattle.lot_months.proofs.range.month_of.Goals as goal

pub overflow_cast-result : goal.overflow_cast-result
overflow_cast-result c =
    let number : epoch_day c.in-Ok.date ≡ c.args.day = search rules in
    let parts = parts_of-date c.in-Ok.date c.args.day (subst IsDayNumber c.number.ensures.value c.number.ensures.bound) number in
    rw (year_is c.in-Ok.date (year_of c.args.day) parts.0)
    (tt, omega (arith, small_year c.in-Ok.date (year_of c.args.day) parts.0))

pub returns : goal.returns
returns c =
    let number : epoch_day c.in-Ok.date ≡ c.args.day = search rules in
    let parts = parts_of-date c.in-Ok.date c.args.day (subst IsDayNumber c.number.ensures.value c.number.ensures.bound) number in
    rw (year_is c.in-Ok.date (year_of c.args.day) parts.0)
    (omega (arith, parts.1, c.from-in-Ok.ensures))
