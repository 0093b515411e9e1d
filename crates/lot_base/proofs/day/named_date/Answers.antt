use Rattle.std.proofs.Common.{refl, ◌∙◌}
use Rattle.lot_base.proofs.DayTextLemmas.{named_date-one, named_date-two, named_date-three}
use Rattle.lot_base.proofs.day.named_date.Goals as goal

pub returns-in_err-year-clause-value : goal.returns-in_err-year-clause-value
returns-in_err-year-clause-value c = c.from_residual.ensures ∙ named_date-one _ c.in_err-year.ensures

pub returns-in_err-month-clause-value : goal.returns-in_err-month-clause-value
returns-in_err-month-clause-value c =
    c.from_residual-in_err-month.ensures ∙ named_date-two _ _ _ c.in_ok-year.ensures c.in_err-month.ensures

pub returns-in_err-year_in-clause-value : goal.returns-in_err-year_in-clause-value
returns-in_err-year_in-clause-value c =
    c.from_residual-in_err-year_in.ensures
    ∙ named_date-three _ _ c.in_ok-year.rest.now _ c.in_ok-month.day.now _ _ _ c.in_ok-year.ensures c.in_ok-month.ensures c.in_err-year_in.ensures.value refl refl

pub returns-in_err-month_or_day_in-clause-value : goal.returns-in_err-month_or_day_in-clause-value
returns-in_err-month_or_day_in-clause-value c =
    c.from_residual-in_err-month_or_day_in.ensures
    ∙ named_date-three _ _ c.in_ok-year.rest.now _ c.in_ok-month.day.now _ _ _ c.in_ok-year.ensures c.in_ok-month.ensures c.in_ok-year_in.ensures.value c.in_err-month_or_day_in.ensures.value refl

pub returns-in_err-month_or_day_in-2-clause-value : goal.returns-in_err-month_or_day_in-2-clause-value
returns-in_err-month_or_day_in-2-clause-value c =
    c.from_residual-in_err-month_or_day_in-2.ensures
    ∙ named_date-three _ _ c.in_ok-year.rest.now _ c.in_ok-month.day.now _ _ _ c.in_ok-year.ensures c.in_ok-month.ensures c.in_ok-year_in.ensures.value c.in_ok-month_or_day_in.ensures.value c.in_err-month_or_day_in-2.ensures.value

pub returns-clause-value : goal.returns-clause-value
returns-clause-value c =
    named_date-three _ _ c.in_ok-year.rest.now _ c.in_ok-month.day.now _ _ _ c.in_ok-year.ensures c.in_ok-month.ensures c.in_ok-year_in.ensures.value c.in_ok-month_or_day_in.ensures.value c.in_ok-month_or_day_in-2.ensures.value
