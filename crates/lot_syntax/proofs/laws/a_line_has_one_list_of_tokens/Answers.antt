-- By the tokens into which a line is cut.
use Rattle.lot_syntax.proofs.CutLemmas.{cut_or_not, one_cut}
use Rattle.lot_syntax.proofs.laws.a_line_has_one_list_of_tokens.Goals as goal

pub returns-clause-some : goal.returns-clause-some
returns-clause-some c = cut_or_not

pub returns-clause-one : goal.returns-clause-one
returns-clause-one c = one_cut
