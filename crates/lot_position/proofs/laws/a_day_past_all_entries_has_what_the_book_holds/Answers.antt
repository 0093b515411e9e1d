use Rattle.lot_position.proofs.LawLemmas.{held_by_book, held_same}
use Rattle.lot_position.proofs.laws.a_day_past_all_entries_has_what_the_book_holds.Goals as goal

pub returns-clause-holds : goal.returns-clause-holds
returns-clause-holds c = held_by_book

pub returns-clause-same : goal.returns-clause-same
returns-clause-same c = held_same
