-- Whether there is a rate decides.
use Rattle.std.proofs.Common.{ap, ◌∙◌, refl, None, Some}
use Rattle.lot_cost.specs.declared.cost.Cost.TheVariants.{Whole}
use Rattle.std.specs.Prelude.{not}
use Rattle.lot_num.proofs.PerUnitLemmas.{per_unit_from}
use Rattle.lot_completion.proofs.RateLemmas.{no_rate, some_rate, stays}
use Rattle.lot_completion.proofs.rates.rate_total.Goals as goal

pub returns-then-is_none-clause-some : goal.returns-then-is_none-clause-some
returns-then-is_none-clause-some c =
    let is = per_unit_from c.per_unit.result c.args.units c.total.result c.per_unit.ensures.some c.per_unit.ensures.every in
    let none = no_rate c.per_unit.result c.args.units c.total.result c.args.whole.now.0 is c.total.ensures.value (c.is_none.ensures ∙ ap not c.if-is_none.true) in
    rw none c.round_cost.ensures.some

pub returns-then-is_none-clause-none : goal.returns-then-is_none-clause-none
returns-then-is_none-clause-none c =
    let is = per_unit_from c.per_unit.result c.args.units c.total.result c.per_unit.ensures.some c.per_unit.ensures.every in
    let none = no_rate c.per_unit.result c.args.units c.total.result c.args.whole.now.0 is c.total.ensures.value (c.is_none.ensures ∙ ap not c.if-is_none.true) in
    rw none c.round_cost.ensures.none

pub returns-clause-some : goal.returns-clause-some
returns-clause-some c =
    let is = per_unit_from c.per_unit.result c.args.units c.total.result c.per_unit.ensures.some c.per_unit.ensures.every in
    let some = some_rate c.per_unit.result c.args.units c.total.result c.args.whole.now.0 is c.total.ensures.value (c.is_none.ensures ∙ ap not c.if-is_none.false) in
    stays c.args.units c.args.whole.now (record { cost = Some (Whole c.in_ok-copy.field-0); left = None }) some (ap (λ whole. Some (Whole whole)) c.in_ok-copy.ensures, refl)
