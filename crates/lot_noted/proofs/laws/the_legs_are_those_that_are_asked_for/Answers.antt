use Rattle.lot_noted.proofs.BareLemmas.{those_asked}
use Rattle.lot_noted.proofs.laws.the_legs_are_those_that_are_asked_for.Goals as goal

pub returns : goal.returns
returns c = those_asked
