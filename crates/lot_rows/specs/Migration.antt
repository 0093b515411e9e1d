-- The table `migration`.
use Rattle.std.specs.Prelude.{pos, [], ◌∷◌}
use Rattle.sqlite.specs.Order.{Row}
use Rattle.sqlite.specs.declared.types.Value.TheVariants.{Int}
use Rattle.lot_table.specs.Cell.{IsPlace}
use Rattle.lot_rows.specs.declared.migration.MigrationRow.{MigrationRow}

abbrev pub migration_cells : MigrationRow → Row
migration_cells row = Int (pos row.entries) ∷ []

pub record IsMigrationRow (row : MigrationRow) : Type 0 where
  pub entries : IsPlace row.entries
