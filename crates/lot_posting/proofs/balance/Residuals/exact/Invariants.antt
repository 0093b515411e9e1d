use Rattle.std.proofs.Common.{◌≡◌}
use Rattle.lot_book.specs.Refusals.{first_currency}
use Rattle.lot_posting.proofs.BalanceLemmas.{misfits_units}
use Rattle.lot_posting.proofs.balance.Residuals.exact.Given as goal

-- each residual so far is that of units: the rest decides
abbrev pub invariant-loop-currency : goal.invariant-loop-currency
invariant-loop-currency l = first_currency misfits_units l.currency-iterator ≡ first_currency misfits_units l.fn.self
