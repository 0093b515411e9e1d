use Rattle.std.proofs.Common.{◌≡◌, ◌++◌}
use Rattle.lot_book.specs.Refusals.{first_currency}
use Rattle.lot_posting.proofs.BalanceLemmas.{fills_of, misfits_units}
use Rattle.lot_posting.proofs.balance.Residuals.fills.Given as goal

-- the fills so far and those of what is left are all; no sum so far is refused, so the rest decides
abbrev pub invariant-loop-currency : goal.invariant-loop-currency
invariant-loop-currency l = record {
  taken : l.fills.items ++ fills_of l.currency-iterator ≡ fills_of l.fn.self;
  exact : first_currency misfits_units l.currency-iterator ≡ first_currency misfits_units l.fn.self;
}
