-- The bytes before a place belong to the text.
use Rattle.std.proofs.Common.{◌≡◌, ◌+◌, ◌-◌, ◌≤◌, length, drop}
use Rattle.std.specs.Prelude.{option_map}
use Rattle.lot_syntax.specs.Cutting.{within_len}
use Rattle.lot_syntax.proofs.cut.within_len.Given as goal

abbrev pub invariant-loop-n : goal.invariant-loop-n
invariant-loop-n l = record {
  within : l.n ≤ length l.bytes;
  so_far : option_map (λ k. l.n + k) (within_len (drop l.n l.bytes)) ≡ within_len l.bytes;
}

abbrev pub decreases-loop-n : goal.decreases-loop-n
decreases-loop-n l = length l.bytes - l.n
