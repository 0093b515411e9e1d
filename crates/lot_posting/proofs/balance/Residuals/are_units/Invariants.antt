use Rattle.std.proofs.Common.{◌≡◌}
use Rattle.lot_book.specs.Refusals.{first_currency}
use Rattle.lot_posting.proofs.BalanceLemmas.{misfits_units}
use Rattle.lot_posting.proofs.balance.Residuals.are_units.Given as goal

-- each residual so far is that of units: the rest decides
abbrev pub invariant-loop-sum : goal.invariant-loop-sum
invariant-loop-sum l = first_currency misfits_units l.sum-iterator ≡ first_currency misfits_units l.fn.self
