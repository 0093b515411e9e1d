use Rattle.std.specs.BTreeMap.{get}
use Rattle.std.proofs.Common.{◌∙◌, List, ap, map, rules, subst, sym}
use Rattle.lot_months.specs.Lots.{pair_cmp}
use Rattle.lot_months.specs.Series.{AreSeries}
use Rattle.lot_months.specs.declared.range.MonthRange.{MonthRange}
use Rattle.lot_months.proofs.SeriesLemmas.{Entry, KeptSoFar, none_so_far, one_more_kept, pair_same, series_hold, series_leave}
use Rattle.lot_months.proofs.series.currency_months.Goals as goal

pub loop-pair-init : goal.loop-pair-init
loop-pair-init c =
    none_so_far c.args.flows.now.range.count (get pair_cmp c.args.prices.now.pairs) c.args.flows.now.pairs.entries _ c.new-points.result
    (c.into_iter-pair-iterator.ensures.into_iter_gives.0 ∙ ap (λ m. m.entries) c.pairs-pair-items.ensures) c.new-points.ensures.empty

pub loop-pair-preserved : goal.loop-pair-preserved
loop-pair-preserved c =
    one_more_kept c.args.flows.now.range.count (get pair_cmp c.args.prices.now.pairs) c.args.flows.now.pairs.entries _ _
    (c.in-Some.pair.now, c.in-Some.months.now) c.loop-pair.points c.add_pair.new.points c.in-Some.ensures.steps
    (rw (c.of.ensures, c.range-count.ensures) at c.in_ok-add_pair.ensures.adds) c.loop-pair.invariant

pub returns-clause-series : goal.returns-clause-series
returns-clause-series c legs quotes flows prices order =
    let range = c.args.flows.now.range in
    let sorted = rw c.pairs-pair-items.ensures at c.into_iter-pair-iterator.ensures.into_iter_gives.5 in
    subst (AreSeries range legs quotes) (sym c.in_ok-listed.ensures.kept)
    (series_hold range legs quotes c.args.flows.now c.args.prices.now flows prices order sorted c.loop-pair.points c.in_ok-listed.ensures.ordered
    (rw c.in-None.ensures.steps.0 at c.loop-pair.invariant))

pub returns-in_err-add_pair-clause-range : goal.returns-in_err-add_pair-clause-range
returns-in_err-add_pair-clause-range c = λ is legs quotes flows prices order.
    let range = c.args.flows.now.range in
    let sorted = rw c.pairs-pair-items.ensures at c.into_iter-pair-iterator.ensures.into_iter_gives.5 in
    series_leave range legs quotes c.args.flows.now c.args.prices.now flows prices order sorted
    (c.in-Some.pair.now, c.in-Some.months.now) _ c.loop-pair.points
    (subst (λ (left : List Entry). KeptSoFar range.count (get pair_cmp c.args.prices.now.pairs) c.args.flows.now.pairs.entries left c.loop-pair.points)
    c.in-Some.ensures.steps c.loop-pair.invariant)
    (pair_same _ _ c.in-Some.pair.now c.in-Some.months.now _ _ c.loop-pair.points (ap (λ (r : MonthRange). r.count) c.range-count.ensures) c.of.ensures
    (c.in_err-add_pair.ensures.range (search rules)))
