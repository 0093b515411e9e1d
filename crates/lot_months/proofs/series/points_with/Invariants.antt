use Rattle.std.specs.Prelude.{◌≡◌, ◌++◌}
use Rattle.std.specs.Iterator.Adapters.{zip_first, zip_second}
use Rattle.std.specs.Slice.Iter.{iter_rest}
use Rattle.lot_months.specs.Ends.{PointsLeaveRange, points_with}
use Rattle.lot_months.proofs.series.points_with.Given as goal

-- the sums so far, and those of what is left, are all sums, and where one of these leaves its range, one of all does
abbrev pub invariant-loop-point : goal.invariant-loop-point
invariant-loop-point l = record {
  sums : l.sums.items ++ points_with (iter_rest (zip_first l.point-iterator)) (iter_rest (zip_second l.point-iterator))
      ≡ points_with l.points l.ends;
  out : PointsLeaveRange (iter_rest (zip_first l.point-iterator)) (iter_rest (zip_second l.point-iterator)) → PointsLeaveRange l.points l.ends;
}
