use Rattle.lot_without.proofs.GivenLemmas.{named_said}
use Rattle.lot_without.proofs.laws.what_is_given_is_printed.Goals as goal

pub returns : goal.returns
returns c = named_said
