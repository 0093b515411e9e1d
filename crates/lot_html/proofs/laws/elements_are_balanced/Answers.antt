use Rattle.lot_html.proofs.LawLemmas.{balanced_alone, balanced_behind, balanced_inside, balanced_text}
use Rattle.lot_html.proofs.laws.elements_are_balanced.Goals as goal

pub returns-clause-text : goal.returns-clause-text
returns-clause-text c = balanced_text

pub returns-clause-behind : goal.returns-clause-behind
returns-clause-behind c = balanced_behind

pub returns-clause-inside : goal.returns-clause-inside
returns-clause-inside c = balanced_inside

pub returns-clause-alone : goal.returns-clause-alone
returns-clause-alone c = balanced_alone
