use Rattle.lot_position.proofs.LawLemmas.{held_by_entries}
use Rattle.lot_position.proofs.laws.a_day_has_what_the_entries_up_to_it_hold.Goals as goal

pub returns : goal.returns
returns c = held_by_entries
