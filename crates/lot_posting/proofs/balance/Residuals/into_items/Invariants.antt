use Rattle.std.proofs.Common.{◌≡◌, ◌++◌}
use Rattle.lot_posting.proofs.balance.Residuals.into_items.Given as goal

-- the items so far and those that are left are all
abbrev pub invariant-loop-residual : goal.invariant-loop-residual
invariant-loop-residual l = l.items ++ l.residual-iterator ≡ l.fn.self
