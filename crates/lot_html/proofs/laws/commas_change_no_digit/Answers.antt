use Rattle.lot_html.proofs.LawLemmas.{digits_stay}
use Rattle.lot_html.proofs.laws.commas_change_no_digit.Goals as goal

pub returns : goal.returns
returns c = digits_stay
