-- The trades so far are those of the rows so far.
use Rattle.std.proofs.Common.{◌≡◌, map, take}
use Rattle.lot_export.specs.Cancels.{plain, trades_of}
use Rattle.lot_export.proofs.cancel.trades.Given as goal

abbrev pub invariant-loop-named : goal.invariant-loop-named
invariant-loop-named l = map plain l.trades.items ≡ trades_of l.entries (take l.named-index l.rows)
