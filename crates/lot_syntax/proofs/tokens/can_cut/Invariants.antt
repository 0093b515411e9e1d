-- What is left of the line is text, and can be cut exactly where the line can.
use Rattle.std.proofs.Common.{◌≡◌, length}
use Rattle.std.specs.Prelude.{IsUtf8}
use Rattle.std.specs.Option.{is_some}
use Rattle.lot_syntax.specs.Cutting.{cut_of}
use Rattle.lot_syntax.proofs.tokens.can_cut.Given as goal

abbrev pub invariant-loop-behind : goal.invariant-loop-behind
invariant-loop-behind l = record {
  utf8 : IsUtf8 l.rest;
  same : is_some (cut_of l.rest) ≡ is_some (cut_of l.line);
}

abbrev pub decreases-loop-behind : goal.decreases-loop-behind
decreases-loop-behind l = length l.rest
