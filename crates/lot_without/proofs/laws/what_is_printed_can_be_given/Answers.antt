use Rattle.lot_without.proofs.GivenLemmas.{given_named}
use Rattle.lot_without.proofs.laws.what_is_printed_can_be_given.Goals as goal

pub returns : goal.returns
returns c = given_named
