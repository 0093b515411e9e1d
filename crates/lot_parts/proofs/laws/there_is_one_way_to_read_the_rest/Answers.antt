use Rattle.std.proofs.Common.{◌∙◌, sym}
use Rattle.lot_parts.proofs.DumpLemmas.{one_rest}
use Rattle.lot_parts.proofs.laws.there_is_one_way_to_read_the_rest.Goals as goal

pub returns : goal.returns
returns f = λ text last a b c d one two. one_rest last last a b c d one.0 two.0 one.1 two.1 (sym one.2 ∙ two.2)
