use Rattle.std.proofs.Common.{◌≡◌, ◌≤◌, ◌*◌, take, ◌-ℤ◌, ◌+ℤ◌}
use Rattle.std.specs.Prelude.{unsigned_abs}
use Rattle.lot_num.specs.Amount.{units_limit}
use Rattle.lot_book.specs.Currencies.{sum_in}
use Rattle.lot_completion.proofs.completion.stated.Given as goal

-- the amounts so far in the currency are added, and each of them is small
abbrev pub invariant-loop-amount : goal.invariant-loop-amount
invariant-loop-amount l = record {
  sum : l.sum ≡ l.fn.residual +ℤ sum_in (take l.amount-index l.left) l.currency;
  near : unsigned_abs (l.sum -ℤ l.fn.residual) ≤ l.amount-index * units_limit;
}
