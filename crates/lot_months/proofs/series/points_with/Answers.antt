use Rattle.std.specs.Prelude.{None}
use Rattle.std.specs.Iterator.Adapters.{zip_first, zip_second}
use Rattle.std.specs.Slice.Iter.{iter_rest}
use Rattle.std.proofs.Common.{◌≡◌, ◌∙◌, ◌++◌, List, ap, append-nil, inl, inr, refl, subst, sym}
use Rattle.std.proofs.lemmas.Slice.Zip.{either_empty_from_Zip}
use Rattle.lot_plot.specs.declared.lines.MonthPoint.{MonthPoint}
use Rattle.lot_months.specs.Ends.{PointsLeaveRange, points_with}
use Rattle.lot_months.specs.declared.series.MonthEnd.{MonthEnd}
use Rattle.lot_months.proofs.SeriesLemmas.{none_zipped, one_out, one_sum_more}
use Rattle.lot_months.proofs.series.points_with.Goals as goal

pub loop-point-init : goal.loop-point-init
loop-point-init c =
    let same = c.into_iter-point-iterator.ensures.into_iter_gives in
    let zipped = c.zip-point-items.ensures in
    let first = ap (λ zip. iter_rest (zip_first zip)) same ∙ ap iter_rest zipped.first ∙ c.iter.ensures.rest in
    let second = ap (λ zip. iter_rest (zip_second zip)) same ∙ zipped.second.0 in
    record {
      sums = λ i. c.new-sums.ensures.items i ++ points_with (first i) (second i);
      out = λ leave. subst2 first second leave;
    }
  where
    subst2 : {points points_left : List MonthPoint} {ends ends_left : List MonthEnd} → points_left ≡ points → ends_left ≡ ends
        → PointsLeaveRange points_left ends_left → PointsLeaveRange points ends
    subst2 {points} {points_left} {ends} {ends_left} first second leave =
        subst (λ (es : List MonthEnd). PointsLeaveRange points es) second
        (subst (λ (ps : List MonthPoint). PointsLeaveRange ps ends_left) first leave)

pub loop-point-preserved : goal.loop-point-preserved
loop-point-preserved c = record {
  sums = one_sum_more _ _ _ _ _ _ _ _ _ _ c.loop-point.invariant.sums c.in-Some.ensures.steps.0 c.in-Some.ensures.steps.1 c.in-Some-point_with.ensures.sum c.in_ok-push.ensures.items;
  out = λ leave. one_out _ _ _ _ _ _ _ _ c.in-Some.ensures.steps.0 c.in-Some.ensures.steps.1 c.loop-point.invariant.out (inr leave);
}

pub returns-in_default-clause-range : goal.returns-in_default-clause-range
returns-in_default-clause-range c = λ is.
    one_out _ _ _ _ _ _ _ _ c.in-Some.ensures.steps.0 c.in-Some.ensures.steps.1 c.loop-point.invariant.out
    (inl (rw c.in_default.is at c.point_with.ensures.range))

pub returns-clause-sums : goal.returns-clause-sums
returns-clause-sums c =
    let none = none_zipped _ _ (either_empty_from_Zip c.loop-point.point-iterator c.next.new.self None refl c.in-None.ensures.steps) in
    sym (append-nil c.loop-point.sums.items) ∙ ap (λ left. c.loop-point.sums.items ++ left) (sym none) ∙ c.loop-point.invariant.sums
