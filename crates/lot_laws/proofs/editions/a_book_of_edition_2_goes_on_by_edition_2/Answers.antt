-- Its place of migration is not behind its end.
use Rattle.lot_laws.proofs.MigrationLaws.{goes_on_by_second, migrated, no_entries_yet}
use Rattle.lot_laws.proofs.RecordedBook.{book-grows}
use Rattle.lot_laws.proofs.editions.a_book_of_edition_2_goes_on_by_edition_2.Goals as goal

pub returns-clause-second : goal.returns-clause-second
returns-clause-second c = goes_on_by_second

pub returns-clause-none : goal.returns-clause-none
returns-clause-none c = no_entries_yet

pub returns-clause-migrated : goal.returns-clause-migrated
returns-clause-migrated c = migrated

pub returns-clause-grows : goal.returns-clause-grows
returns-clause-grows c = book-grows
