-- The legs of an entry bear its number.
use Rattle.lot_legs.proofs.OrderLemmas.{legs_of_their_entries}
use Rattle.lot_legs.proofs.laws.a_dated_leg_is_of_its_entry.Goals as goal

pub returns : goal.returns
returns c = legs_of_their_entries
