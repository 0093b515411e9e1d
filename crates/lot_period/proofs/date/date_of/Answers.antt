use Rattle.std.proofs.Common.{◌≡◌, rules, subst}
use Rattle.jiff_core.specs.Date.{epoch_day}
use Rattle.lot_base.specs.Day.{IsDayNumber}
use Rattle.lot_period.proofs.DateLemmas.{parts_of-date}
use Rattle.lot_period.proofs.date.date_of.Goals as goal

pub returns-clause-year : goal.returns-clause-year
returns-clause-year c =
    let number : epoch_day c.in-Ok.date ≡ c.args.day = search rules in
    (parts_of-date c.in-Ok.date c.args.day (subst IsDayNumber c.number.ensures.value c.number.ensures.bound) number).0

pub returns-clause-month : goal.returns-clause-month
returns-clause-month c =
    let number : epoch_day c.in-Ok.date ≡ c.args.day = search rules in
    (parts_of-date c.in-Ok.date c.args.day (subst IsDayNumber c.number.ensures.value c.number.ensures.bound) number).1

pub returns-clause-day : goal.returns-clause-day
returns-clause-day c =
    let number : epoch_day c.in-Ok.date ≡ c.args.day = search rules in
    (parts_of-date c.in-Ok.date c.args.day (subst IsDayNumber c.number.ensures.value c.number.ensures.bound) number).2
