use Rattle.lot_position.proofs.LawLemmas.{one_held}
use Rattle.lot_position.proofs.laws.a_day_has_one_list_of_rows.Goals as goal

pub returns : goal.returns
returns c = one_held
