use Rattle.lot_sums.proofs.LawLemmas.{same_bytes, same_report}
use Rattle.lot_sums.proofs.laws.a_day_past_all_entries_is_written_as_what_the_book_holds.Goals as goal

pub returns-clause-same : goal.returns-clause-same
returns-clause-same c = same_report

pub returns-clause-bytes : goal.returns-clause-bytes
returns-clause-bytes c = same_bytes
