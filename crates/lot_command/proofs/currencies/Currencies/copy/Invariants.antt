use Rattle.std.proofs.Common.{◌≡◌, take}
use Rattle.lot_command.proofs.currencies.Currencies.copy.Given as goal

-- the copies so far are those of the first currencies
abbrev pub invariant-loop-currency : goal.invariant-loop-currency
invariant-loop-currency l = l.items.items ≡ take l.currency-index l.currency-items
