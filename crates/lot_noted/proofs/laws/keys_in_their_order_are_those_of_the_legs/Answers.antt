use Rattle.lot_noted.proofs.BareLemmas.{keys_are}
use Rattle.lot_noted.proofs.laws.keys_in_their_order_are_those_of_the_legs.Goals as goal

pub returns : goal.returns
returns c asked entries keys book are = keys_are asked entries (c.dated_legs_are_in_their_order.ensures entries book) keys are
