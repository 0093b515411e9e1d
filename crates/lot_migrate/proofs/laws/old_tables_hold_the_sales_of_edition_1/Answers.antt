-- They have the sales of the tables of edition 2, all of which are of entries before the place of migration.
use Rattle.lot_migrate.proofs.StandLemmas.{first_sales}
use Rattle.lot_migrate.proofs.laws.old_tables_hold_the_sales_of_edition_1.Goals as goal

pub returns : goal.returns
returns c = first_sales
