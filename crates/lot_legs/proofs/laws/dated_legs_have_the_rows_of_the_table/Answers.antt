-- Both lists rise, and they have the same rows.
use Rattle.lot_legs.proofs.BookLemmas.{leg_rows}
use Rattle.lot_legs.proofs.laws.dated_legs_have_the_rows_of_the_table.Goals as goal

pub returns : goal.returns
returns c = leg_rows
