-- The first number with a comma is among the tokens that are left.
use Rattle.std.proofs.Common.{◌≡◌, length}
use Rattle.lot_explain.specs.Commas.{first_with_comma}
use Rattle.lot_explain.proofs.commas.first_with_comma.Given as goal

abbrev pub invariant-loop-token : goal.invariant-loop-token
invariant-loop-token l = first_with_comma l.rest ≡ first_with_comma l.initial.rest

abbrev pub decreases-loop-token : goal.decreases-loop-token
decreases-loop-token l = length l.rest
