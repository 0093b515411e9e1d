use Rattle.std.proofs.Common.{◌≡◌, ◌++◌, map}
use Rattle.lot_months.specs.Ends.{points_kept}
use Rattle.lot_months.specs.Series.{shown}
use Rattle.lot_months.proofs.SeriesLemmas.{kept_shown}
use Rattle.lot_months.proofs.series.listed.Given as goal

-- those listed and those that are left are all
abbrev pub invariant-loop-currency : goal.invariant-loop-currency
invariant-loop-currency l = map shown l.all.items ++ kept_shown l.currency-iterator ≡ points_kept l.fn.points
