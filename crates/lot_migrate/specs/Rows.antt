-- The rows that migration reads and puts.
use Rattle.std.specs.Prelude.{ℕ, Bool, List, [], ◌∷◌, filter, map, is_some}
use Rattle.lot_book.specs.declared.leg.Leg.{Leg}
use Rattle.lot_migrate.specs.declared.opening_numbers.LotOpening.{LotOpening}
use Rattle.lot_rows.specs.Tables.{Tables}
use Rattle.lot_rows.specs.declared.leg.LegRow.{LegRow}
use Rattle.lot_rows.specs.declared.opening.OpeningRow.{OpeningRow}
use Rattle.lot_stored.specs.Rows.{migration_row, opening_row, this_edition}

-- the leg of a row
abbrev pub leg_of : LegRow → Leg
leg_of row = record {
  entry = row.entry;
  posting = row.posting;
  place = row.place;
  position = record { account = row.account; commodity = row.commodity; lot = row.lot };
  units = row.units;
}

-- the legs of the table, in the order of its rows: those of an entry by posting, where the book has the legs of an elided
-- posting behind the others
abbrev pub legs_in : Tables → List Leg
legs_in tables = map leg_of tables.leg

abbrev pub is_at_lot : Leg → Bool
is_at_lot leg = is_some leg.position.lot

-- the legs at lots, which alone say what the openings are
abbrev pub at_lots : List Leg → List Leg
at_lots = filter is_at_lot

-- the row of a lot's opening number
abbrev pub row_of_opening : LotOpening → OpeningRow
row_of_opening it = opening_row it.account it.commodity it.lot it.opening

-- tables of edition 1 with the two that are added, which have no rows yet
abbrev pub bare : Tables → Tables
bare tables = record tables { opening = []; migration = [] }

-- the tables of edition 2 that migration makes of tables of edition 1
abbrev pub migrated : Tables → List OpeningRow → ℕ → Tables
migrated tables openings place = record tables {
  book = this_edition ∷ [];
  opening = openings;
  migration = migration_row place ∷ [];
}
