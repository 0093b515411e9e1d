-- What goes on before a place belongs to the whole part.
use Rattle.std.proofs.Common.{◌≡◌, ◌+◌, ◌-◌, ◌≤◌, length, drop}
use Rattle.lot_syntax.specs.Cutting.{whole_len}
use Rattle.lot_syntax.proofs.cut.whole_len.Given as goal

abbrev pub invariant-loop-n : goal.invariant-loop-n
invariant-loop-n l = record {
  within : l.n ≤ length l.bytes;
  so_far : l.n + whole_len (drop l.n l.bytes) ≡ whole_len l.bytes;
}

abbrev pub decreases-loop-n : goal.decreases-loop-n
decreases-loop-n l = length l.bytes - l.n
