-- What is left of the line is text, can be cut exactly where the line can, and then has the other tokens.
use Rattle.std.proofs.Common.{◌≡◌, true, length}
use Rattle.std.specs.Prelude.{IsUtf8}
use Rattle.std.specs.Option.{is_some}
use Rattle.lot_syntax.specs.Cutting.{cut_behind, cut_of, given}
use Rattle.lot_syntax.proofs.tokens.cut_first.Given as goal

abbrev pub invariant-loop-token : goal.invariant-loop-token
invariant-loop-token l = record {
  utf8 : IsUtf8 l.rest;
  same : is_some (cut_of l.rest) ≡ is_some (cut_of l.line);
  so_far : is_some (cut_of l.line) ≡ true → cut_behind l.first.items l.rest ≡ given (cut_of l.line);
}

abbrev pub decreases-loop-token : goal.decreases-loop-token
decreases-loop-token l = length l.rest
