use Rattle.lot_html.proofs.LawLemmas.{has_no_markup, says_all}
use Rattle.lot_html.proofs.laws.written_text_says_it.Goals as goal

pub returns-clause-says : goal.returns-clause-says
returns-clause-says c = says_all

pub returns-clause-no_markup : goal.returns-clause-no_markup
returns-clause-no_markup c = has_no_markup
