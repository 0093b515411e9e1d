-- Entry by entry.
use Rattle.std.specs.Prelude.{[]}
use Rattle.lot_laws.proofs.LawBooks.{begun}
use Rattle.lot_laws.proofs.MigrationLaws.{up_to_place}
use Rattle.lot_laws.proofs.editions.a_book_up_to_its_place_of_migration_is_of_edition_1.Goals as goal

pub returns-clause-place : goal.returns-clause-place
returns-clause-place c = up_to_place

pub returns-clause-first : goal.returns-clause-first
returns-clause-first c = λ migration entries more book. begun migration [] entries more book
