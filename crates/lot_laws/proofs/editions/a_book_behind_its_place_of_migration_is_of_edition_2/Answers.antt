-- The edition behind the place is the second.
use Rattle.lot_laws.proofs.MigrationLaws.{behind_place, judged_behind_place}
use Rattle.lot_laws.proofs.editions.a_book_behind_its_place_of_migration_is_of_edition_2.Goals as goal

pub returns-clause-next : goal.returns-clause-next
returns-clause-next c = behind_place

pub returns-clause-judged : goal.returns-clause-judged
returns-clause-judged c = judged_behind_place
