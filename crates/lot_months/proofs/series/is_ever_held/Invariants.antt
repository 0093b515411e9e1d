use Rattle.std.proofs.Common.{◌≡◌, drop}
use Rattle.lot_months.specs.Ends.{is_ever_held}
use Rattle.lot_months.proofs.series.is_ever_held.Given as goal

-- what is left decides
abbrev pub invariant-loop-end : goal.invariant-loop-end
invariant-loop-end l = is_ever_held (drop l.end-index l.ends) ≡ is_ever_held l.ends
