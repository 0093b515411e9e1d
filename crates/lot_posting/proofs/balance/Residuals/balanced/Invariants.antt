use Rattle.std.proofs.Common.{◌≡◌, []}
use Rattle.lot_book.specs.Refusals.{not_balanced}
use Rattle.lot_posting.proofs.balance.Residuals.balanced.Given as goal

-- no currency so far is refused: the rest decides
abbrev pub invariant-loop-currency : goal.invariant-loop-currency
invariant-loop-currency l = not_balanced [] l.currency-iterator ≡ not_balanced [] l.fn.self
