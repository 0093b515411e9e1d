-- There are at least as many decimals as were tried.
use Rattle.std.proofs.Common.{◌≤◌}
use Rattle.lot_deal_read.proofs.figures.count_of.Given as goal

abbrev pub invariant-loop-count : goal.invariant-loop-count
invariant-loop-count l = l.count ≤ l.decimals
