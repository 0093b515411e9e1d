-- The rows of the legs of an entry, posting by posting.
use Rattle.std.specs.Prelude.{◌≡◌, ◌==◌, ℕ, List, filter, map}
use Rattle.lot_book.specs.declared.leg.Leg.{Leg}
use Rattle.lot_rows.specs.declared.leg.LegRow.{LegRow}
use Rattle.lot_stored.specs.Rows.{leg_row}

abbrev pub rows_of : ℕ → List LegRow → List LegRow
rows_of posting rows = filter (λ (row : LegRow). row.posting == posting) rows

abbrev pub legs_at : ℕ → List Leg → List Leg
legs_at posting legs = filter (λ (leg : Leg). leg.posting == posting) legs

-- the rows of a posting are those of its legs, in their order
abbrev pub AreAlike : ℕ → List LegRow → List Leg → Type 0
AreAlike posting rows legs = rows_of posting rows ≡ map leg_row (legs_at posting legs)
