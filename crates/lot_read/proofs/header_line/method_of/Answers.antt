use Rattle.lot_read.proofs.DirectiveLemmas.{no_method}
use Rattle.lot_read.proofs.ItemLemmas.{outside_first}
use Rattle.lot_read.proofs.header_line.method_of.Goals as goal

pub returns-in-None-clause-outside : goal.returns-in-None-clause-outside
returns-in-None-clause-outside c = rw c.in-Some.is (outside_first _ _ _ (no_method c.in-Some.word.now c.in-None.ensures))
