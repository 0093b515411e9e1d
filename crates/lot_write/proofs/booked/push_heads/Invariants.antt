use Rattle.std.proofs.Common.{◌≡◌, ◌++◌}
use Rattle.lot_view.specs.View.{known}
use Rattle.lot_write.specs.Writes.{heads_written}
use Rattle.lot_write.proofs.booked.push_heads.Given as goal

-- the writes so far and those of what is left are those before and those of all
abbrev pub invariant-loop-pair : goal.invariant-loop-pair
invariant-loop-pair l = l.writes.items ++ heads_written (known l.view) l.pair-iterator ≡ l.fn.writes.items ++ heads_written (known l.view) l.fn.heads.entries
