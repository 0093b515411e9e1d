-- The rate for each unit, where there is one.
use Rattle.std.proofs.Common.{refl, sym, ap, ◌∙◌}
use Rattle.std.specs.Prelude.{is_none}
use Rattle.lot_num.specs.Amount.{per_unit}
use Rattle.lot_num.proofs.PerUnitLemmas.{per_unit_from}
use Rattle.lot_booking.specs.Booking.{is_inexact, number_of}
use Rattle.lot_booking.proofs.cost.number.Goals as goal

pub returns-in-Some-clause-number : goal.returns-in-Some-clause-number
returns-in-Some-clause-number c =
    let units = c.args.units in
    let is = per_unit_from c.per_unit.result units c.total.result c.per_unit.ensures.some c.per_unit.ensures.every in
    sym c.in-Some.is ∙ is ∙ ap (per_unit units) c.total.ensures.value ∙ ap (number_of units) (sym c.in-Whole.is)

pub returns-in-Some-clause-exact : goal.returns-in-Some-clause-exact
returns-in-Some-clause-exact c ok =
    let units = c.args.units in
    let is = per_unit_from c.per_unit.result units c.total.result c.per_unit.ensures.some c.per_unit.ensures.every in
    ap (is_inexact units) c.in-Whole.is ∙ ap is_none (sym (sym c.in-Some.is ∙ is ∙ ap (per_unit units) c.total.ensures.value))

pub returns-in-None-clause-inexact : goal.returns-in-None-clause-inexact
returns-in-None-clause-inexact c =
    let units = c.args.units in
    let is = per_unit_from c.per_unit.result units c.total.result c.per_unit.ensures.some c.per_unit.ensures.every in
    (refl, ap (is_inexact units) c.in-Whole.is ∙ ap is_none (sym (sym c.in-None.is ∙ is ∙ ap (per_unit units) c.total.ensures.value)))
