-- The journal is what is written, whatever is heard.
use Rattle.lot_book_report.proofs.JournalLemmas.{whatever_is_heard}
use Rattle.lot_book_report.proofs.journal.show_journal.Goals as goal

pub returns-clause-shows : goal.returns-clause-shows
returns-clause-shows g c =
    record { holds = λ clean entries stands. (c.write_entries.ensures.shows.holds clean entries stands).0 }

pub returns-clause-lines : goal.returns-clause-lines
returns-clause-lines g c = (c.write_entries.ensures.lines.0, c.write_entries.ensures.lines.1.0)

pub returns-clause-rows : goal.returns-clause-rows
returns-clause-rows g c =
    record { holds = λ clean tables has. whatever_is_heard _ _ c.write_entries.result (c.write_entries.ensures.rows.holds clean tables has) }
