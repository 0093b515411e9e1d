-- By the parts of a text, and of its spelling.
use Rattle.lot_num.proofs.GrammarLemmas.{text_is_spelled, spelling_is_cut}
use Rattle.lot_num.proofs.laws.number_text_is_its_grammar.Goals as goal

pub returns-clause-only : goal.returns-clause-only
returns-clause-only c = text_is_spelled

pub returns-clause-every : goal.returns-clause-every
returns-clause-every c = spelling_is_cut
