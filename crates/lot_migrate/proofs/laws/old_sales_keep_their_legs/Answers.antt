-- Every entry stands before the place of migration.
use Rattle.std.specs.Prelude.{length}
use Rattle.std.proofs.Common.{arith}
use Rattle.lot_migrate.proofs.SaleLemmas.{sales_up_to_place}
use Rattle.lot_migrate.proofs.laws.old_sales_keep_their_legs.Goals as goal

pub returns : goal.returns
returns c = λ entries sales. sales_up_to_place (length entries) entries sales (omega arith)
