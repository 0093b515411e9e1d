-- An empty line has no token.
use Rattle.std.proofs.Common.{ap}
use Rattle.std.specs.Option.{is_some}
use Rattle.lot_syntax.specs.Cutting.{given}
use Rattle.lot_syntax.proofs.CutLemmas.{cut_empty}
use Rattle.lot_syntax.proofs.tokens.LineTokens.new.Goals as goal

pub invariant_of-result : goal.invariant_of-result
invariant_of-result c = ap is_some cut_empty

pub returns : goal.returns
returns c = rw c.new.ensures.items (ap given cut_empty)
