use Rattle.std.proofs.Common.{◌∙◌, ◌++◌, ap, append-nil, map, refl, sym}
use Rattle.lot_months.specs.Series.{shown}
use Rattle.lot_months.proofs.SeriesLemmas.{kept_shown, one_more_listed}
use Rattle.lot_months.proofs.series.listed.Goals as goal

pub loop-currency-init : goal.loop-currency-init
loop-currency-init c = λ i. map shown (c.new-all.ensures.items i) ++ kept_shown (c.into_iter-currency-iterator.ensures.into_iter_gives.0 i)

pub loop-currency-preserved : goal.loop-currency-preserved
loop-currency-preserved c =
    one_more_listed _ _ _ _ _ c.in-Some.currency c.in-Some.points _ c.loop-currency.invariant c.in-Some.ensures.steps refl c.in_ok-push.ensures.items

pub returns-clause-kept : goal.returns-clause-kept
returns-clause-kept c =
    sym (append-nil (map shown c.loop-currency.all.items))
    ∙ ap (λ l. map shown c.loop-currency.all.items ++ kept_shown l) (sym c.in-None.ensures.steps.0)
    ∙ c.loop-currency.invariant

pub returns-clause-ordered : goal.returns-clause-ordered
returns-clause-ordered c = c.into_iter-currency-iterator.ensures.into_iter_gives.5
