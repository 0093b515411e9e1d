use Rattle.std.specs.Prelude.{[]}
use Rattle.lot_register.proofs.RowLemmas.{legs_back}
use Rattle.lot_register.proofs.laws.rows_are_those_of_the_legs.Goals as goal

pub returns : goal.returns
returns c = legs_back []
