use Rattle.std.proofs.Common.{◌≡◌}
use Rattle.lot_posting.proofs.BalanceLemmas.{first_left_barred}
use Rattle.lot_posting.proofs.balance.Residuals.are_allowed.Given as goal

-- no currency so far is barred: the rest decides
abbrev pub invariant-loop-currency : goal.invariant-loop-currency
invariant-loop-currency l = first_left_barred l.fn.standing l.currency-iterator ≡ first_left_barred l.fn.standing l.fn.self
