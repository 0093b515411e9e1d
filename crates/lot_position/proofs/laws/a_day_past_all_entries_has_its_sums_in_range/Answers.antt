use Rattle.lot_position.proofs.LawLemmas.{book_in_range}
use Rattle.lot_position.proofs.laws.a_day_past_all_entries_has_its_sums_in_range.Goals as goal

pub returns : goal.returns
returns c = book_in_range
